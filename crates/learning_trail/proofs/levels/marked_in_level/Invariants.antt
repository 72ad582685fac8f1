use Rattle.std.proofs.Common.{◌≡◌, ◌≤◌, true, take, reverse, length}
use Rattle.dq_lits.specs.Literal.{Literal}
use Rattle.dq_lits.specs.Derivation.{holds}
use Rattle.learning_trail.specs.Marks.{is_level_marked}
use Rattle.learning_trail.specs.Steps.{level_of}
use Rattle.learning_trail.proofs.levels.marked_in_level.Given as goal

abbrev pub invariant-loop-at : goal.invariant-loop-at
invariant-loop-at l = record {
  within : l.at ≤ length l.steps;
  left : is_level_marked l.notes.marks (reverse (take l.at l.steps)) ≡ is_level_marked l.notes.marks (reverse l.steps);
  level : (k : Literal) → holds (level_of (reverse (take l.at l.steps))) k ≡ true →
      holds (level_of (reverse l.steps)) k ≡ true;
}

abbrev pub decreases-loop-at : goal.decreases-loop-at
decreases-loop-at l = l.at
