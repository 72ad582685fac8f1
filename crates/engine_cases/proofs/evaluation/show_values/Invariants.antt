use Rattle.std.proofs.Common.{◌≡◌, length}
use Rattle.aig_graph.specs.Graph.{size_of}
use Rattle.engine_cases.proofs.evaluation.show_values.Given as goal

abbrev pub invariant-loop-number : goal.invariant-loop-number
invariant-loop-number l = length l.buf ≡ size_of l.graph
