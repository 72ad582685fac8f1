use Rattle.definability.proofs.PreservedStores.{engines_left}
use Rattle.definability.proofs.laws.engines_leave_stores.Goals as goal

pub returns : goal.returns
returns c = engines_left
