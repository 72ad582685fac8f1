use Rattle.std.proofs.Common.{◌≡◌}
use Rattle.session_runs.specs.Invariant.{IsSessionInvariant}
use Rattle.session_runs.proofs.sessions.Session.take_all.Given as goal

abbrev pub invariant-loop-place : goal.invariant-loop-place
invariant-loop-place g l =
    g.O.Oracle.Fits l.oracle l.log × IsSessionInvariant l.script l.place l.self l.log × (l.self.file.now ≡ l.initial.self.file.now)
    × (l.log.limit ≡ l.initial.log.limit)
