use Rattle.std.proofs.Common.{◌≡◌, length}
use Rattle.engine_cases.proofs.evaluation.bits_of.Given as goal

abbrev pub invariant-loop-place : goal.invariant-loop-place
invariant-loop-place l = length l.bits ≡ length l.f.existentials
