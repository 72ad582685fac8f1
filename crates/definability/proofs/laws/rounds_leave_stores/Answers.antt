use Rattle.definability.proofs.PreservedStores.{rounds_left}
use Rattle.definability.proofs.laws.rounds_leave_stores.Goals as goal

pub returns : goal.returns
returns c = rounds_left
