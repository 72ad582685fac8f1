use Rattle.std.proofs.Common.{◌≡◌, length}
use Rattle.learning_trail.proofs.levels.back_to_start.Given as goal

abbrev pub invariant-loop-step : goal.invariant-loop-step
invariant-loop-step l = l.trail.room ≡ l.fn.trail.room

abbrev pub decreases-loop-step : goal.decreases-loop-step
decreases-loop-step l = length l.trail.steps
