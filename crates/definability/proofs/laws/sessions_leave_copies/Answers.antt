use Rattle.definability.proofs.SessionCopies.{copies_left}
use Rattle.definability.proofs.laws.sessions_leave_copies.Goals as goal

pub returns : goal.returns
returns c = copies_left c.engines_leave_sessions.ensures
