use Rattle.std.proofs.Common.{◌≡◌}
use Rattle.dq_prep.specs.Takings.{IsTaking}
use Rattle.dq_prep.proofs.preparation.take_waiting.Given as goal

abbrev pub invariant-loop : goal.invariant-loop
invariant-loop l = IsTaking l.taking × (l.taking.formula.now ≡ l.initial.taking.formula.now)
