use Rattle.std.proofs.Common.{inl, inr, zero, suc, [], ◌∷◌, refl, arith}
use Rattle.dq_lits.specs.Literal.{positive}
use Rattle.dq_prep.specs.Units.{IsUnit}
use Rattle.dq_prep.specs.Examples.{settled, taken}
use Rattle.dq_prep.proofs.examples.unit_settles_the_rest.Goals as goal

first : IsUnit settled [] (taken 0 (positive 2))
first = record {
  clause = positive 2 ∷ [];
  at = refl;
  unsatisfied = refl;
  left = refl;
  existential = refl;
}

pub returns-clause-units : goal.returns-clause-units
returns-clause-units c = (first, tt)

pub returns-clause-too_few : goal.returns-clause-too_few
returns-clause-too_few c (inl none) = none (taken 0 (positive 2)) first
returns-clause-too_few c (inr (zero, below, is)) = cc
returns-clause-too_few c (inr (suc zero, below, is)) = cc
returns-clause-too_few c (inr (suc (suc k), below, is)) = omega (arith, below)
