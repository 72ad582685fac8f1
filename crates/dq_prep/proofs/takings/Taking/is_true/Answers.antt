use Rattle.std.proofs.Common.{arith}
use Rattle.dq_prep.proofs.OpenLiterals.{true-role}
use Rattle.dq_prep.proofs.takings.Taking.is_true.Goals as goal

pub returns : goal.returns
returns c = search (arith, true-role)
