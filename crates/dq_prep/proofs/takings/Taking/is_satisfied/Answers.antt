use Rattle.std.proofs.Common.{arith}
use Rattle.dq_prep.proofs.WellFormed.{bound-at}
use Rattle.dq_prep.proofs.takings.Taking.is_satisfied.Goals as goal

pub is_true-requires-clause-bound : goal.is_true-requires-clause-bound
is_true-requires-clause-bound c = search (arith, bound-at)
