-- The least of some variables that no definition may read, looked for one by one.
use Rattle.std.proofs.Common.{◌≡◌, ℕ, ◌+◌, ◌≤◌, ◌<◌, nat_lt, cond, ◌⊎◌, inl, inr, List, length, get_or, Option, None, Some, refl, sym, ap, subst, arith}
use Rattle.std.specs.List.{All, Contains}
use Rattle.std.proofs.lemmas.Bool.{cases_Bool, ltb-true, ltb-false}
use Rattle.std.proofs.lemmas.List.{get_or_default}
use Rattle.dq_lits.specs.Formula.{Existential, Dqbf}
use Rattle.defined_checker.specs.Answers.{IsLeastForeign, IsWithLeaf, lesser}
use Rattle.defined_checker.specs.DefinitionReads.{MayDefine}

module _ (May : ℕ → Type 0) (xs : List ℕ) where
  abbrev Foreign : ℕ → Type 0
  Foreign k = May (get_or xs k 0) → ⊥

  -- before a place
  abbrev pub IsLeastBefore : ℕ → Option ℕ → Type 0
  IsLeastBefore i None = (k : ℕ) → k < i → May (get_or xs k 0)
  IsLeastBefore i (Some v) =
      ((k : ℕ) × ((k < i) × ((get_or xs k 0 ≡ v) × Foreign k)))
      × ((k : ℕ) → k < i → Foreign k → v ≤ get_or xs k 0)

  pub nothing : IsLeastBefore 0 None
  nothing k below = absurd (omega (arith, below))

  at_last : (k i : ℕ) → k < i + 1 → (k < i) ⊎ (k ≡ i)
  at_last k i below = search (arith, cases_Bool, nat_lt, ltb-true, ltb-false)

  pub passed : (i : ℕ) (least : Option ℕ) → IsLeastBefore i least → May (get_or xs i 0) → IsLeastBefore (i + 1) least
  passed i None before may =
      λ k below. elim (at_last k i below) [
        | inl low ↦ before k low
        | inr same ↦ subst (λ j. May (get_or xs j 0)) (sym same) may
      ]
  passed i (Some v) before may = (
    (before.0.0, (omega (arith, before.0.1.0), before.0.1.1)),
    λ k below foreign. elim (at_last k i below) [
      | inl low ↦ before.1 k low foreign
      | inr same ↦ absurd (foreign (subst (λ j. May (get_or xs j 0)) (sym same) may))
    ],
  )

  pub found : (i : ℕ) (least : Option ℕ) → IsLeastBefore i least → Foreign i →
      IsLeastBefore (i + 1) (Some (lesser least (get_or xs i 0)))
  found i None before foreign = (
    (i, (omega arith, (refl, foreign))),
    λ k below other. elim (at_last k i below) [
      | inl low ↦ absurd (other (before k low))
      | inr same ↦ let equal : get_or xs i 0 ≡ get_or xs k 0 = ap (λ j. get_or xs j 0) (sym same) in
          omega (arith, equal)
    ],
  )
  found i (Some v) before foreign =
      elim (cases_Bool (nat_lt v (get_or xs i 0))) [
        | inl less ↦
            subst (λ n. IsLeastBefore (i + 1) (Some n)) (sym (ap (λ b. cond b v (get_or xs i 0)) less)) (
              (before.0.0, (omega (arith, before.0.1.0), before.0.1.1)),
              λ k below other. elim (at_last k i below) [
                | inl low ↦ before.1 k low other
                | inr same ↦
                    let equal : get_or xs i 0 ≡ get_or xs k 0 = ap (λ j. get_or xs j 0) (sym same) in
                    omega (arith, equal, ltb-true v (get_or xs i 0) less)
              ],
            )
        | inr more ↦
            subst (λ n. IsLeastBefore (i + 1) (Some n)) (sym (ap (λ b. cond b v (get_or xs i 0)) more)) (
              (i, (omega arith, (refl, foreign))),
              λ k below other. elim (at_last k i below) [
                | inl low ↦
                    let least : v ≤ get_or xs k 0 = before.1 k low other in
                    omega (arith, least, ltb-false v (get_or xs i 0) more)
                | inr same ↦
                    let equal : get_or xs i 0 ≡ get_or xs k 0 = ap (λ j. get_or xs j 0) (sym same) in
                    omega (arith, equal)
              ],
            )
      ]

  pub all_may : (i : ℕ) → length xs ≤ i → IsLeastBefore i None → All May xs
  all_may i end before k d below = search (arith, get_or_default)

  pub is_least : (i v : ℕ) → length xs ≡ i → IsLeastBefore i (Some v) →
      Contains xs v × ((May v → ⊥) × ((w : ℕ) → Contains xs w → (May w → ⊥) → v ≤ w))
  is_least i v end before = search (arith, get_or_default)

pub with_one : (May : ℕ → Type 0) (xs : List ℕ) (i : ℕ) (least new : Option ℕ) → IsLeastBefore May xs i least →
    IsWithLeaf (May (get_or xs i 0)) least (get_or xs i 0) new → IsLeastBefore May xs (i + 1) new
with_one May xs i least new before step = search arith

pub answer : (f : Dqbf) (y : Existential) (xs : List ℕ) (i : ℕ) (least : Option ℕ) → length xs ≤ i → i ≤ length xs →
    IsLeastBefore (MayDefine f y) xs i least → IsLeastForeign f y xs least
answer f y xs i None end within before = all_may (MayDefine f y) xs i end before
answer f y xs i (Some v) end within before =
    is_least (MayDefine f y) xs i v (omega (arith, end, within)) before
