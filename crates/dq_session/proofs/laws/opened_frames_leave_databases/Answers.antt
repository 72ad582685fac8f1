use Rattle.dq_session.proofs.ChangedDatabases.{frames_open}
use Rattle.dq_session.proofs.laws.opened_frames_leave_databases.Goals as goal

pub returns : goal.returns
returns c = frames_open
