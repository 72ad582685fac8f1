use Rattle.repair_loop.proofs.ReadySearchStates.{clauses_come}
use Rattle.repair_loop.proofs.laws.added_clauses_leave_search_states.Goals as goal

pub returns : goal.returns
returns c = clauses_come c.added_clauses_leave_databases.ensures c.added_clauses_leave_stores.ensures
