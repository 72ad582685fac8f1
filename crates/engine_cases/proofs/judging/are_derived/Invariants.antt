use Rattle.std.proofs.Common.{◌≡◌}
use Rattle.engine_cases.proofs.judging.are_derived.Given as goal

abbrev pub invariant-loop-before : goal.invariant-loop-before
invariant-loop-before l = l.marks ≡ l.made.largest
