use Rattle.std.proofs.Common.{arith}
use Rattle.session_runs.proofs.FoundVerdicts.{one-number}
use Rattle.session_runs.proofs.searches.live_clauses.Goals as goal

pub loop-live-preserved : goal.loop-live-preserved
loop-live-preserved c = search (arith, one-number)
