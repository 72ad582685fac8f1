use Rattle.std.proofs.Common.{arith}
use Rattle.std.proofs.lemmas.List.{length-map}
use Rattle.learning_trail.proofs.TouchedMarks.{mark_set}
use Rattle.learning_trail.proofs.notes.Notes.add_mark.Goals as goal

pub returns-clause-marked : goal.returns-clause-marked
returns-clause-marked c = search (arith, length-map, mark_set)
