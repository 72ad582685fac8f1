use Rattle.std.proofs.Common.{◌≡◌}
use Rattle.dq_prep.specs.KeptClauses.{IsKeeper, AreKeptBefore}
use Rattle.dq_prep.proofs.kept_clauses.Keeper.keep_all.Given as goal

abbrev pub invariant-loop-place : goal.invariant-loop-place
invariant-loop-place l =
    (l.self.taking.now ≡ l.initial.self.taking.now) × IsKeeper l.self
    × AreKeptBefore l.initial.self.taking.now l.g l.place
