use Rattle.std.proofs.Common.{arith}
use Rattle.list_laws.proofs.Results.{on_ok}
use Rattle.dq_prep.proofs.SeenUniversals.{keeps-stays}
use Rattle.dq_prep.proofs.sights.reduce.Goals as goal

pub returns : goal.returns
returns c = search (arith, on_ok, keeps-stays)
