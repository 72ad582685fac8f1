use Rattle.std.proofs.Common.{◌≡◌, ◌≤◌, take, reverse, length}
use Rattle.learning_trail.specs.Steps.{decision_of}
use Rattle.learning_trail.proofs.levels.last_decision.Given as goal

abbrev pub invariant-loop-at : goal.invariant-loop-at
invariant-loop-at l = record {
  within : l.at ≤ length l.steps;
  left : decision_of (reverse (take l.at l.steps)) ≡ decision_of (reverse l.steps);
}

abbrev pub decreases-loop-at : goal.decreases-loop-at
decreases-loop-at l = l.at
