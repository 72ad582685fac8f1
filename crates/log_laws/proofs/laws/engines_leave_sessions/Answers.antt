use Rattle.log_laws.proofs.LiveEngines.{sessions_left}
use Rattle.log_laws.proofs.laws.engines_leave_sessions.Goals as goal

pub returns : goal.returns
returns c = sessions_left
