use Rattle.std.proofs.Common.{◌≡◌, ◌≤◌, take, reverse, length}
use Rattle.learning_trail.specs.Marks.{is_level_marked}
use Rattle.learning_trail.proofs.levels.is_level_marked.Given as goal

abbrev pub invariant-loop-at : goal.invariant-loop-at
invariant-loop-at l = record {
  within : l.at ≤ length l.steps;
  left : is_level_marked l.notes.marks (reverse (take l.at l.steps)) ≡ is_level_marked l.notes.marks (reverse l.steps);
}

abbrev pub decreases-loop-at : goal.decreases-loop-at
decreases-loop-at l = l.at
