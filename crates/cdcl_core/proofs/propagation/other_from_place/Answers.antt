use Rattle.std.proofs.Common.{arith}
use Rattle.cdcl_core.proofs.NextOthers.{before_or_none}
use Rattle.cdcl_core.proofs.VisitedClauses.{read_watch}
use Rattle.cdcl_core.proofs.propagation.other_from_place.Goals as goal

pub returns-in-None : goal.returns-in-None
returns-in-None c = search (arith, before_or_none)

pub returns-in-Some : goal.returns-in-Some
returns-in-Some c = search (arith, read_watch)
