use Rattle.dq_session.proofs.PreservedDatabases.{beginning_left}
use Rattle.dq_session.proofs.laws.beginnings_leave_databases.Goals as goal

pub returns : goal.returns
returns c = beginning_left
