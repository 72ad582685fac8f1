use Rattle.std.proofs.Common.{[], ◌∷◌, refl}
use Rattle.dq_lits.specs.Literal.{positive}
use Rattle.dq_prep.proofs.examples.the_rest_stays.Goals as goal

pub returns-clause-units : goal.returns-clause-units
returns-clause-units c =
    (record { clause = positive 3 ∷ []; at = refl; unsatisfied = refl; left = refl; existential = refl }, tt)
