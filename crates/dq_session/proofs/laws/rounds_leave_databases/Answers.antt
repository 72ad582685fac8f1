use Rattle.dq_session.proofs.PreservedDatabases.{round_left}
use Rattle.dq_session.proofs.laws.rounds_leave_databases.Goals as goal

pub returns : goal.returns
returns c = round_left
