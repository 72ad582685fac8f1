use Rattle.session_runs.proofs.GrownSessions.{sessions-take-clauses}
use Rattle.session_runs.proofs.laws.sessions_take_clauses.Goals as goal

pub returns : goal.returns
returns c = sessions-take-clauses
