use Rattle.std.proofs.Common.{◌≡◌, ◌-◌, length}
use Rattle.dq_prep.specs.Takings.{IsTaking}
use Rattle.dq_prep.proofs.preparation.take_all.Given as goal

abbrev pub invariant-loop : goal.invariant-loop
invariant-loop l = IsTaking l.taking × (l.taking.formula.now ≡ l.initial.taking.formula.now)

abbrev pub decreases-loop : goal.decreases-loop
decreases-loop l = length l.taking.formula.now.matrix - length l.taking.trace
