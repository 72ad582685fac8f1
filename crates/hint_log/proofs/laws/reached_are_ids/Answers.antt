use Rattle.hint_log.proofs.Lawful.{reached_are_ids_lem}
use Rattle.hint_log.proofs.laws.reached_are_ids.Goals as goal

pub returns : goal.returns
returns c = reached_are_ids_lem
