use Rattle.std.proofs.Common.{arith}
use Rattle.dq_prep.proofs.Emptied.{empty-kept}
use Rattle.dq_prep.proofs.takings.Taking.try_take.Goals as goal

pub returns-in-Empty-clause-found : goal.returns-in-Empty-clause-found
returns-in-Empty-clause-found c = search (arith, empty-kept)
