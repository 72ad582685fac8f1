use Rattle.std.proofs.Common.{inl, inr, zero, suc, [], ◌∷◌, refl, arith}
use Rattle.dq_lits.specs.Literal.{positive}
use Rattle.dq_prep.specs.Units.{IsUnit}
use Rattle.dq_prep.specs.Examples.{emptied, taken}
use Rattle.dq_prep.proofs.examples.unit_empties_a_clause.Goals as goal

first : IsUnit emptied [] (taken 0 (positive 3))
first = record {
  clause = positive 3 ∷ positive 2 ∷ [];
  at = refl;
  unsatisfied = refl;
  left = refl;
  existential = refl;
}

pub returns-clause-units : goal.returns-clause-units
returns-clause-units c = (first, tt)

pub returns-clause-too_few : goal.returns-clause-too_few
returns-clause-too_few c (inl none) = none (taken 0 (positive 3)) first
returns-clause-too_few c (inr (zero, below, is)) = cc
returns-clause-too_few c (inr (suc zero, below, is)) = cc
returns-clause-too_few c (inr (suc (suc k), below, is)) = omega (arith, below)
