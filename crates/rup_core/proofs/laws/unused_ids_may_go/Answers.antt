use Rattle.rup_core.proofs.DeletedClauses.{unused_may_go}
use Rattle.rup_core.proofs.laws.unused_ids_may_go.Goals as goal

pub returns : goal.returns
returns c = unused_may_go
