use Rattle.dq_session.proofs.ChangedDatabases.{frames_close}
use Rattle.dq_session.proofs.laws.closed_frames_leave_databases.Goals as goal

pub returns : goal.returns
returns c = frames_close
