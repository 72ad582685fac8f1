use Rattle.session_runs.proofs.SessionInvariant.{following-databases-stand}
use Rattle.session_runs.proofs.laws.following_databases_stand.Goals as goal

pub returns : goal.returns
returns c = following-databases-stand
