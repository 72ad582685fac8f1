use Rattle.definability.proofs.PreservedStores.{beginnings_left}
use Rattle.definability.proofs.laws.beginnings_leave_stores.Goals as goal

pub returns : goal.returns
returns c = beginnings_left
