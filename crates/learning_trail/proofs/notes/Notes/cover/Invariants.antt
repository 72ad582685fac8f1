use Rattle.std.proofs.Common.{◌+◌, ◌-◌, length}
use Rattle.learning_trail.proofs.notes.Notes.cover.Given as goal

abbrev pub decreases-loop-self : goal.decreases-loop-self
decreases-loop-self l = l.trail.room + 1 - length l.self.marks
