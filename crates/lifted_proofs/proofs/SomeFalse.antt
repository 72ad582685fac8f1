-- The line that some clause which is kept is false.
use Rattle.std.proofs.Common.{◌≡◌, ℕ, zero, suc, ◌+◌, ◌<◌, ◌||◌, ◌⊎◌, true, false, inl, inr, List, [], ◌∷◌, ◌++◌, map, Some, refl, ◌∙◌, ap, subst, arith, ◌≢◌}
use Rattle.std.specs.List.{All, AllZip, list_any, range_with_len, AllPairs}
use Rattle.std.proofs.lemmas.Bool.{cases_eq, ne_eqb, or_left, or_right}
use Rattle.std.proofs.lemmas.Option.{get_or_from_slice_get, slice_get_within}
use Rattle.dq_lits.specs.Literal.{Literal, positive, negative, opposite}
use Rattle.dq_lits.specs.Derivation.{LiveClauses, IsDerived, holds}
use Rattle.dq_lits.proofs.SignedLiterals.{same_literal-refl}
use Rattle.dq_prep.specs.Lifted.{AreFalsifying}
use Rattle.dq_prep.proofs.Carried.{derives}
use Rattle.lifted_proofs.specs.Liftables.{is_false}
use Rattle.lifted_proofs.specs.NamedIds.{IsTrueBy}
use Rattle.lifted_proofs.proofs.KeptPlaces.{StandsIn}

-- the clause at a place isn't false
abbrev not_false : ℕ → ℕ → Literal
not_false first place = negative (first + place)

abbrev units_of : ℕ → List ℕ → List ℕ → List (ℕ × Literal)
units_of first [] ids = []
units_of first (p ∷ ps) [] = []
units_of first (p ∷ ps) (id ∷ ids) = (id, not_false first p) ∷ units_of first ps ids

ids-of : (live : LiveClauses) (first next : ℕ) (ps ids : List ℕ) → AllZip (IsTrueBy live first next) ps ids
    → map (λ unit. unit.0) (units_of first ps ids) ≡ ids
ids-of live first next [] [] are = refl
ids-of live first next [] (id ∷ ids) are = absurd are
ids-of live first next (p ∷ ps) [] are = absurd are
ids-of live first next (p ∷ ps) (id ∷ ids) are = ap (λ xs. id ∷ xs) (ids-of live first next ps ids are.1)

-- the literals that are true behind the units
abbrev behind_units : ℕ → List ℕ → List Literal → List Literal
behind_units first [] trues = trues
behind_units first (p ∷ ps) trues = behind_units first ps (not_false first p ∷ trues)

stays-true : (first : ℕ) (ps : List ℕ) (trues : List Literal) (l : Literal) → holds trues l ≡ true
    → holds (behind_units first ps trues) l ≡ true
stays-true first [] trues l held = held
stays-true first (p ∷ ps) trues l held = search (arith, (stays-true first ps), or_right)

unit-true : (first : ℕ) (ps : List ℕ) (trues : List Literal) (p : ℕ) → StandsIn ps p
    → holds (behind_units first ps trues) (not_false first p) ≡ true
unit-true first [] trues p (j, at) = cc
unit-true first (q ∷ qs) trues p (zero, at) = search (arith, stays-true, or_left, same_literal-refl)
unit-true first (q ∷ qs) trues p (suc j, at) = unit-true first qs (not_false first q ∷ trues) p (j, at)

-- where no positive literal is true, and none of these negative ones, they falsify the last clause
falsify : (live : LiveClauses) (first next last : ℕ) (ps ids : List ℕ) (trues clause : List Literal)
    → AllZip (IsTrueBy live first next) ps ids → AllPairs (λ i j. i ≢ j) ps
    → ((v : ℕ) → holds trues (positive v) ≡ false)
    → ((p : ℕ) → StandsIn ps p → holds trues (not_false first p) ≡ false)
    → live last ≡ Some clause
    → All (λ l. holds (behind_units first ps trues) (opposite l) ≡ true) clause
    → AreFalsifying live trues (units_of first ps ids) last
falsify live first next last [] [] trues clause are distinct none fresh at all = (clause, at, all)
falsify live first next last [] (id ∷ ids) trues clause are distinct none fresh at all = absurd are
falsify live first next last (p ∷ ps) [] trues clause are distinct none fresh at all = absurd are
falsify live first next last (p ∷ ps) (id ∷ ids) trues clause are distinct none fresh at all = (
  are.0.is,
  fresh p (0, refl),
  none (first + p),
  falsify live first next last ps ids (not_false first p ∷ trues) clause are.1
      (λ i j d before within. distinct (suc i) (suc j) d (omega (arith, before)) (omega (arith, within))) none
      (λ q in-ps. elim (cases_eq (first + q) (first + p)) [
        | inl same ↦
            absurd (distinct 0 (suc in-ps.0) 0 (omega arith) (omega (arith, slice_get_within ps in-ps.0 q in-ps.1))
            (omega (arith, same, get_or_from_slice_get ps in-ps.0 q 0 in-ps.1)))
        | inr apart ↦
            ap (λ b. b || holds trues (not_false first q)) (ne_eqb (first + q) (first + p) apart)
            ∙ fresh q (suc in-ps.0, in-ps.1)
      ])
      at all,
)

none-positive : (first : ℕ) (ps : List ℕ) (v : ℕ)
    → holds (map opposite (map (is_false first) ps)) (positive v) ≡ false
none-positive first [] v = refl
none-positive first (p ∷ ps) v = none-positive first ps v

kept-true : (first : ℕ) (ps : List ℕ) (p : ℕ) → StandsIn ps p
    → holds (map opposite (map (is_false first) ps)) (not_false first p) ≡ true
kept-true first [] p (j, at) = cc
kept-true first (q ∷ qs) p (zero, at) = search (arith, or_left, same_literal-refl)
kept-true first (q ∷ qs) p (suc j, at) = search (arith, or_right, (kept-true first qs p (j, at)))

fresh-here : (first : ℕ) (ps : List ℕ) (p : ℕ) → (StandsIn ps p → ⊥)
    → holds (map opposite (map (is_false first) ps)) (not_false first p) ≡ false
fresh-here first [] p none = refl
fresh-here first (q ∷ qs) p none = elim (cases_eq (first + p) (first + q)) [
  | inl same ↦
      let is : q ≡ p = omega (arith, same) in
      absurd (none (0, ap Some is))
  | inr apart ↦
      ap (λ b. b || holds (map opposite (map (is_false first) qs)) (not_false first p))
      (ne_eqb (first + p) (first + q) apart)
      ∙ fresh-here first qs p (λ it. none (suc it.0, it.1))
]

positives-plain : (first : ℕ) (xs ps : List ℕ)
    → list_any (λ l. holds (map (is_false first) xs) (opposite l)) (map (is_false first) ps) ≡ false
positives-plain first xs [] = refl
positives-plain first xs (p ∷ ps) =
    ap (λ b. b || list_any (λ l. holds (map (is_false first) xs) (opposite l)) (map (is_false first) ps))
    (no-negative xs) ∙ positives-plain first xs ps
  where
    no-negative : (xs : List ℕ) → holds (map (is_false first) xs) (negative (first + p)) ≡ false
    no-negative [] = refl
    no-negative (x ∷ xs) = no-negative xs

all-in-range : (P : Literal → Type 0) (from count : ℕ) → ((r : ℕ) → r < count → P (positive (from + r)))
    → All P (map positive (range_with_len from count))
all-in-range P from zero each k d below = absurd (omega (arith, below))
all-in-range P from (suc count) each zero d below = subst (λ v. P (positive v)) (omega arith) (each 0 (omega arith))
all-in-range P from (suc count) each (suc k) d below =
    all-in-range P (from + 1) count
    (λ r low. subst (λ v. P (positive v)) (omega arith) (each (suc r) (omega (arith, low)))) k d
    (omega (arith, below))

-- the kept clauses are the ones that may be false
pub some-false : (live : LiveClauses) (first next last count : ℕ) (kept gone ids : List ℕ) → AllPairs (λ i j. i ≢ j) gone
    → AllZip (IsTrueBy live first next) gone ids
    → ((p : ℕ) → p < count → StandsIn kept p ⊎ StandsIn gone p)
    → ((p : ℕ) → StandsIn kept p → StandsIn gone p → ⊥)
    → live last ≡ Some (map positive (range_with_len first count))
    → IsDerived live (map (is_false first) kept) (ids ++ last ∷ [])
some-false live first next last count kept gone ids distinct are each apart at =
    let literals : List Literal = map (is_false first) kept in
    let trues : List Literal = map opposite literals in
    let units : List (ℕ × Literal) = units_of first gone ids in
    subst (λ xs. IsDerived live literals (xs ++ last ∷ [])) (ids-of live first next gone ids are)
    (derives live literals units last (positives-plain first kept kept)
    (falsify live first next last gone ids trues (map positive (range_with_len first count)) are distinct
    (none-positive first kept) (λ p it. fresh-here first kept p (λ also. apart p also it)) at
    (all-in-range (λ l. holds (behind_units first gone trues) (opposite l) ≡ true) first count
    (λ r below. elim (each r below) [
      | inl kept-one ↦
          stays-true first gone trues (not_false first r) (kept-true first kept r kept-one)
      | inr gone-one ↦ unit-true first gone trues r gone-one
    ]))))
