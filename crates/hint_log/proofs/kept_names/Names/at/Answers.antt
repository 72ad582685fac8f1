use Rattle.std.proofs.Common.{arith}
use Rattle.hint_log.proofs.OrderedNames.{at_from, at_behind}
use Rattle.hint_log.proofs.kept_names.Names.at.Goals as goal

pub returns-then-place-len : goal.returns-then-place-len
returns-then-place-len c = search (arith, at_from)

pub returns-in-Some : goal.returns-in-Some
returns-in-Some c = search (arith, at_behind)

pub returns-in-None : goal.returns-in-None
returns-in-None c = search (arith, at_behind)
