use Rattle.rup_core.proofs.RenamedVariables.{stays_named}
use Rattle.rup_core.proofs.laws.names_stay.Goals as goal

pub returns : goal.returns
returns c number later known clause same line = stays_named number later known same clause line
