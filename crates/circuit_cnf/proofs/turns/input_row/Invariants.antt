use Rattle.std.proofs.Common.{◌≡◌, false, replicate, length}
use Rattle.dq_lits.specs.Literal.{variable_of}
use Rattle.aig_graph.proofs.WrittenBits.{written}
use Rattle.circuit_cnf.proofs.turns.input_row.Given as goal

abbrev pub invariant-loop-place : goal.invariant-loop-place
invariant-loop-place g l = l.row ≡ written (λ k. g.O.Oracle.values l.oracle (variable_of k)) l.inputs
    (replicate (length l.inputs) false) l.place
