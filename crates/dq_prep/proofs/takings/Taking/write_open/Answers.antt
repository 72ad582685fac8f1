use Rattle.std.proofs.Common.{arith}
use Rattle.dq_prep.proofs.WellFormed.{bound-at}
use Rattle.dq_prep.proofs.takings.Taking.write_open.Goals as goal

pub is_false-requires-clause-bound : goal.is_false-requires-clause-bound
is_false-requires-clause-bound c = search (arith, bound-at)
