use Rattle.std.proofs.Common.{◌≡◌, take}
use Rattle.dq_session.specs.Databases.{live_of}
use Rattle.session_runs.proofs.searches.live_clauses.Given as goal

abbrev pub invariant-loop-live : goal.invariant-loop-live
invariant-loop-live l = l.numbers.items ≡ take l.live-index (live_of l.database)
