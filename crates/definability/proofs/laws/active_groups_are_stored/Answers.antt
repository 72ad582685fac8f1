use Rattle.definability.proofs.GroupedCopies.{active_stored}
use Rattle.definability.proofs.laws.active_groups_are_stored.Goals as goal

pub returns : goal.returns
returns c = active_stored
