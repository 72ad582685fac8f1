use Rattle.dq_session.proofs.PreservedDatabases.{databases_left}
use Rattle.dq_session.proofs.laws.engines_leave_databases.Goals as goal

pub returns : goal.returns
returns c = databases_left
