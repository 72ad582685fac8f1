use Rattle.rup_core.proofs.DeletedClauses.{items_keep}
use Rattle.rup_core.proofs.laws.live_clauses_are_implied.Goals as goal

pub returns : goal.returns
returns c = items_keep c.derived_line_is_implied.ensures
