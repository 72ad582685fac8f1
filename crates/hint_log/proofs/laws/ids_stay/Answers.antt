use Rattle.hint_log.proofs.Lawful.{ids_stay_lem}
use Rattle.hint_log.proofs.laws.ids_stay.Goals as goal

pub returns : goal.returns
returns c = ids_stay_lem
