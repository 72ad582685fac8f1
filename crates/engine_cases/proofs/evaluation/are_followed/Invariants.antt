use Rattle.std.proofs.Common.{◌≡◌, length}
use Rattle.aig_graph.specs.Graph.{size_of}
use Rattle.engine_cases.proofs.evaluation.are_followed.Given as goal

abbrev pub invariant-loop-place : goal.invariant-loop-place
invariant-loop-place l = length l.buf ≡ size_of l.candidates.graph.now
