use Rattle.hint_log.proofs.Lawful.{clauses_are_named_lem}
use Rattle.hint_log.proofs.laws.clauses_are_named.Goals as goal

pub returns : goal.returns
returns c = clauses_are_named_lem
