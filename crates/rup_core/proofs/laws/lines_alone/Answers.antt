use Rattle.rup_core.proofs.DeletedClauses.{steps_alone}
use Rattle.rup_core.proofs.laws.lines_alone.Goals as goal

pub returns : goal.returns
returns c = steps_alone
