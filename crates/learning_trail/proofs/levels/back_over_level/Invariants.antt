use Rattle.std.proofs.Common.{◌≡◌, length}
use Rattle.learning_trail.specs.Steps.{under_level}
use Rattle.learning_trail.proofs.levels.back_over_level.Given as goal

abbrev pub invariant-loop-step : goal.invariant-loop-step
invariant-loop-step l = record {
  room : l.trail.room ≡ l.fn.trail.room;
  left : under_level l.trail.steps ≡ under_level l.fn.trail.steps;
}

abbrev pub decreases-loop-step : goal.decreases-loop-step
decreases-loop-step l = length l.trail.steps
