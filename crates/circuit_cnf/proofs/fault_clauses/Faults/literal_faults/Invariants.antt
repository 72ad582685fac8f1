use Rattle.std.proofs.Common.{◌+◌}
use Rattle.dq_lits.specs.Literal.{variable_of}
use Rattle.circuit_cnf.specs.Saying.{leaf_in, selector_in}
use Rattle.circuit_cnf.proofs.SaidFaults.{FaultsSoFar}
use Rattle.circuit_cnf.proofs.fault_clauses.Faults.literal_faults.Given as goal

abbrev pub invariant-loop-i : goal.invariant-loop-i
invariant-loop-i g l =
    (g.O.Oracle.Fits l.oracle l.log) × FaultsSoFar l.self.f.now (selector_in l.self) (variable_of l.bad) (l.j + 1)
    (leaf_in l.self) l.clause l.fn.log l.log l.i
