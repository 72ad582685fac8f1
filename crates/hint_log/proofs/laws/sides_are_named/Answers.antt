use Rattle.hint_log.proofs.Lawful.{sides_are_named_lem}
use Rattle.hint_log.proofs.laws.sides_are_named.Goals as goal

pub returns : goal.returns
returns c = sides_are_named_lem
