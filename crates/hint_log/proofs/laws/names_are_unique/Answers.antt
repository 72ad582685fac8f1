use Rattle.hint_log.proofs.Lawful.{names_are_unique_lem}
use Rattle.hint_log.proofs.laws.names_are_unique.Goals as goal

pub returns : goal.returns
returns c = names_are_unique_lem
