use Rattle.std.proofs.Common.{◌≡◌}
use Rattle.dq_lits.specs.Row.{bit_of}
use Rattle.aig_graph.specs.Graph.{node_value}
use Rattle.aig_graph.proofs.WrittenBits.{written}
use Rattle.aig_graph.proofs.graphs.Graph.values.Given as goal

abbrev pub invariant-loop-place : goal.invariant-loop-place
invariant-loop-place l = l.out ≡ written (node_value l.self (bit_of l.row)) l.nodes l.fn.out l.place
