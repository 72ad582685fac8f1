use Rattle.std.proofs.Common.{List, length}
use Rattle.learning_trail.specs.declared.trails.Step.{Step}
use Rattle.learning_trail.specs.Steps.{IsUnder}
use Rattle.learning_trail.proofs.TakenLevels.{IsOnJump}
use Rattle.learning_trail.proofs.levels.back_to_marked_level.Given as goal

abbrev pub invariant-levels : goal.invariant-levels
invariant-levels l = record {
  jump : IsOnJump l.fn.trail l.trail l.notes.marks;
  under : (steps : List Step) → IsUnder steps l.fn.trail.steps → IsUnder steps l.trail.steps;
}

abbrev pub decreases-levels : goal.decreases-levels
decreases-levels l = length l.trail.steps
