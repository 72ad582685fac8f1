use Rattle.dq_session.proofs.AddedClauses.{clauses_come}
use Rattle.dq_session.proofs.laws.added_clauses_leave_databases.Goals as goal

pub returns : goal.returns
returns c = clauses_come
