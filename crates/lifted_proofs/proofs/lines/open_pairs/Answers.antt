use Rattle.std.proofs.Common.{arith}
use Rattle.dq_prep.proofs.WellFormed.{bound-at}
use Rattle.lifted_proofs.proofs.lines.open_pairs.Goals as goal

pub is_open-requires-clause-bound : goal.is_open-requires-clause-bound
is_open-requires-clause-bound c = search (arith, bound-at)
