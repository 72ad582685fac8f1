use Rattle.std.proofs.Common.{arith}
use Rattle.lifted_proofs.proofs.NamedGoals.{free-by}
use Rattle.lifted_proofs.proofs.lines.is_free.Goals as goal

pub returns-in-Some : goal.returns-in-Some
returns-in-Some c = search (arith, free-by)

pub returns-in-None : goal.returns-in-None
returns-in-None c = search (arith, free-by)
