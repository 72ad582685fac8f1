use Rattle.std.proofs.Common.{subst}
use Rattle.std.proofs.lemmas.Bool.{OnTrue_at}
use Rattle.dq_prep.specs.Simplified.{IsExhausted}
use Rattle.dq_prep.proofs.preparation.take_waiting.Goals as goal

pub returns-then-branch-clause-exhausted : goal.returns-then-branch-clause-exhausted
returns-then-branch-clause-exhausted c =
    subst (λ f. IsExhausted f c.try_waiting.new.taking.trace) c.loop.invariant.1
    (OnTrue_at c.if-branch.true c.in_ok-try_waiting.ensures.exhausted)
