use Rattle.std.proofs.Common.{arith}
use Rattle.dq_prep.proofs.OpenLiterals.{false-role}
use Rattle.dq_prep.proofs.takings.Taking.is_false.Goals as goal

pub returns : goal.returns
returns c = search (arith, false-role)
