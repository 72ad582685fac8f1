use Rattle.std.proofs.Common.{◌∙◌, subst, arith}
use Rattle.std.proofs.lemmas.Bool.{OnTrue_at, OnFalse_at}
use Rattle.dq_prep.specs.Simplified.{IsExhausted}
use Rattle.dq_prep.proofs.FewUnits.{few-units}
use Rattle.dq_prep.proofs.preparation.take_all.Goals as goal

pub loop-smaller : goal.loop-smaller
loop-smaller c = search (arith, OnTrue_at, few-units)

pub returns-clause-exhausted : goal.returns-clause-exhausted
returns-clause-exhausted c =
    subst (λ f. IsExhausted f c.take_next.new.taking.trace)
    (c.loop.invariant.1 ∙ c.in_ok-take_waiting.ensures.formula)
    (OnFalse_at c.if-branch-2.false c.in_ok-take_next.ensures.exhausted)
