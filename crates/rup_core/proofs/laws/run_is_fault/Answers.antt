use Rattle.std.proofs.Common.{false}
use Rattle.rup_core.proofs.DeletedClauses.{going_is_fault}
use Rattle.rup_core.proofs.laws.run_is_fault.Goals as goal

pub returns : goal.returns
returns c = going_is_fault false
