use Rattle.std.proofs.Common.{ℕ, ◌<◌}
use Rattle.pec_front.specs.Steps.{level_in, IsBelow}
use Rattle.pec_front.proofs.levels.Levels.first_above.Given as goal

abbrev pub invariant-loop-i : goal.invariant-loop-i
invariant-loop-i l = (j : ℕ) → j < l.i → IsBelow (level_in l.self) l.boxes j
