use Rattle.session_runs.proofs.GrownSessions.{undecided-takes-clauses}
use Rattle.session_runs.proofs.laws.undecided_takes_clauses.Goals as goal

pub returns : goal.returns
returns c = undecided-takes-clauses
