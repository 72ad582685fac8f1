use Rattle.std.proofs.Common.{arith}
use Rattle.lifted_proofs.proofs.KeptSources.{taken-by}
use Rattle.lifted_proofs.proofs.sources.is_taken.Goals as goal

pub returns-in-Some : goal.returns-in-Some
returns-in-Some c = search (arith, taken-by)

pub returns-in-None : goal.returns-in-None
returns-in-None c = search (arith, taken-by)
