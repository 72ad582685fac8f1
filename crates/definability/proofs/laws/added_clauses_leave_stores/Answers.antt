use Rattle.definability.proofs.MoreClauses.{clauses_left}
use Rattle.definability.proofs.laws.added_clauses_leave_stores.Goals as goal

pub returns : goal.returns
returns c = clauses_left
