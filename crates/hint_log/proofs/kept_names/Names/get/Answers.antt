use Rattle.std.proofs.Common.{arith}
use Rattle.hint_log.proofs.OrderedNames.{lookup_from, lookup_behind}
use Rattle.hint_log.proofs.kept_names.Names.get.Goals.{else-var-ge1-via-then-var-ge1+else-var-len, else-var-ge1-via-else-var-ge1}
use Rattle.hint_log.proofs.kept_names.Names.get.Goals as goal

pub returns-then-var-len : goal.returns-then-var-len
returns-then-var-len c = search (arith, lookup_from)

pub returns-in-Some : goal.returns-in-Some
returns-in-Some c = search (arith, lookup_behind)

pub returns-in-None : goal.returns-in-None
returns-in-None c = search (arith, lookup_behind)
