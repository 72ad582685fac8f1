use Rattle.session_runs.proofs.Followed.{databases-follow}
use Rattle.session_runs.proofs.laws.databases_follow.Goals as goal

pub returns : goal.returns
returns c = databases-follow
