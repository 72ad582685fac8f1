use Rattle.std.proofs.Common.{subst}
use Rattle.dq_prep.specs.Simplified.{IsExhausted}
use Rattle.dq_prep.proofs.preparation.take_units.Goals as goal

pub returns-clause-exhausted : goal.returns-clause-exhausted
returns-clause-exhausted c =
    subst (λ f. IsExhausted f c.take_all.new.taking.trace) c.in_ok-taking.ensures.formula
    c.in_ok-take_all.ensures.exhausted
