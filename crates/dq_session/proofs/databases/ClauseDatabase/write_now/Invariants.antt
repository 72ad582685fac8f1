use Rattle.std.proofs.Common.{◌≡◌}
use Rattle.hint_log.specs.Live.{with_matrix}
use Rattle.dq_session.proofs.LiveFormulas.{first_clauses}
use Rattle.dq_session.proofs.databases.ClauseDatabase.write_now.Given as goal

abbrev pub invariant-loop-live : goal.invariant-loop-live
invariant-loop-live l = l.f ≡ with_matrix l.self.file (first_clauses l.self l.live-index)
