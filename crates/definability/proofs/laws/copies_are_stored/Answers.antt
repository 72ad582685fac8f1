use Rattle.definability.proofs.GroupedCopies.{stored}
use Rattle.definability.proofs.laws.copies_are_stored.Goals as goal

pub returns : goal.returns
returns c = stored
