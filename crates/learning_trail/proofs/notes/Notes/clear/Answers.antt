use Rattle.std.proofs.Common.{◌∙◌, ap}
use Rattle.learning_trail.specs.Noting.{is_marked}
use Rattle.learning_trail.proofs.TouchedMarks.{mark_shown}
use Rattle.learning_trail.proofs.notes.Notes.clear.Goals as goal

pub returns-clause-marked : goal.returns-clause-marked
returns-clause-marked c = λ v. mark_shown c.clear_all.new.marks.items v ∙ ap is_marked (c.clear_all.ensures.clear v)
