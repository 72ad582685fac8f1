use Rattle.std.proofs.Common.{◌≡◌, ℕ, ◌<◌}
use Rattle.dq_prep.specs.Takings.{IsTaking, IsNoUnit}
use Rattle.dq_prep.proofs.preparation.take_next.Given as goal

abbrev pub invariant-loop-place : goal.invariant-loop-place
invariant-loop-place l =
    IsTaking l.taking × (l.taking.formula.now ≡ l.initial.taking.formula.now)
    × (l.taking.trace ≡ l.initial.taking.trace)
    × ((p : ℕ) → p < l.place → IsNoUnit l.initial.taking.formula.now l.initial.taking.trace p)
