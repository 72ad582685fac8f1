-- The examples of an odd number.
use Rattle.std.proofs.Common.{◌≡◌, zero, suc, ◌==◌, Bool, true, false, not, ◌&&◌, ◌||◌, cond, [], map, refl, arith}
use Rattle.std.specs.List.{All}
use Rattle.headline.specs.Examples.{both_and_one, one_of_two}
use Rattle.headline.specs.Headline.{Existential, IsFalseFormula, IsTrueFormula, existentials_of}

-- whether an odd number of two bits is true
abbrev odd : Bool → Bool → Bool
odd a b = cond a (not (cond b true false)) (cond b true false)

one_holds : (a b : Bool) → a ≡ true → b ≡ false → (odd a b && true) ≡ true
one_holds true false first second = refl
one_holds true true first second = cc
one_holds false b first second = cc

pub one_is_true : IsTrueFormula one_of_two
one_is_true = (
  λ v bits. v == 1,
  λ m each. one_holds (m 1) (m 2) (each 0 (record { variable = 0; sees = [] }) (omega arith))
      (each 1 (record { variable = 0; sees = [] }) (omega arith)),
)

never_both : (a b : Bool) → (odd a b && ((a || false) && ((b || false) && true))) ≡ true → ⊥
never_both true true h = cc
never_both true false h = cc
never_both false true h = cc
never_both false false h = cc

pub both_are_false : IsFalseFormula both_and_one
both_are_false value solve = never_both (value 1 []) (value 2 []) (solve (λ v. value v []) own) where
  own : All (λ (y : Existential). value y.variable [] ≡ value y.variable (map (λ v. value v []) y.sees))
      (existentials_of both_and_one)
  own zero d below = refl
  own (suc zero) d below = refl
  own (suc (suc k)) d below = absurd (omega (arith, below))
