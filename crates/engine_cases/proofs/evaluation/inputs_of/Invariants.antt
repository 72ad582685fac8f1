use Rattle.std.proofs.Common.{◌≡◌, length}
use Rattle.engine_cases.proofs.evaluation.inputs_of.Given as goal

abbrev pub invariant-loop-place : goal.invariant-loop-place
invariant-loop-place l = length l.inputs ≡ l.graph.inputs
