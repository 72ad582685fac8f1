-- A clause of three literals has the same status with the last two exchanged.
use Rattle.std.proofs.Common.{◌≡◌, ◌∙◌, ◌==◌, ◌&&◌, ◌||◌, ℕ, Bool, cond, true, false, not, inl, inr, List, [], ◌∷◌, ◌++◌, map, None, Some, refl, sym, ap, subst, arith}
use Rattle.std.specs.List.{filter, list_any}
use Rattle.std.proofs.lemmas.Bool.{cases_Bool}
use Rattle.std.proofs.lemmas.List.{map-append}
use Rattle.std.proofs.lemmas.List.Elements.{filter-append}
use Rattle.dq_lits.specs.Literal.{Literal, opposite, same_literal}
use Rattle.dq_lits.specs.Derivation.{unit, stuck, holds, status_by, status_of}
use Rattle.dq_lits.proofs.Truth.{same_literal-sound}
use Rattle.dq_lits.proofs.SignedLiterals.{same_literal-differs}
use Rattle.cert_text.specs.NegatedMatrix.{as_literal, without_constants}

-- what stands in the way of a falsified clause
abbrev left_of : List Literal → List ℕ → List Literal
left_of trues ls = filter (λ l. not (holds trues (opposite l))) (map as_literal (filter (λ l. not (l == 0)) ls))

data IsShort : List Literal → Type 0 where
  none : IsShort []
  one : (l : Literal) → IsShort (l ∷ [])

short_of : (trues : List Literal) (l : ℕ) → IsShort (left_of trues (l ∷ []))
short_of trues l = by_bit (not (l == 0)) where
  by_second : (c : Bool) → IsShort (cond c (as_literal l ∷ []) [])
  by_second true = one (as_literal l)
  by_second false = none

  by_bit : (b : Bool) →
      IsShort (filter (λ l. not (holds trues (opposite l))) (map as_literal (cond b (l ∷ []) [])))
  by_bit true = by_second (not (holds trues (opposite (as_literal l))))
  by_bit false = none

left_append : (trues : List Literal) (xs ys : List ℕ) →
    left_of trues (xs ++ ys) ≡ left_of trues xs ++ left_of trues ys
left_append trues xs ys = search (arith, filter-append, map-append)

parts : (trues : List Literal) (a x y : ℕ) → left_of trues (a ∷ x ∷ y ∷ [])
    ≡ left_of trues (a ∷ []) ++ (left_of trues (x ∷ []) ++ left_of trues (y ∷ []))
parts trues a x y = left_append trues (a ∷ []) (x ∷ y ∷ [])
    ∙ ap (λ rest. left_of trues (a ∷ []) ++ rest) (left_append trues (x ∷ []) (y ∷ []))

and_swapped : (b c : Bool) → (b && (c && true)) ≡ (c && (b && true))
and_swapped true true = refl
and_swapped true false = refl
and_swapped false true = refl
and_swapped false false = refl

or_swapped : (b c d : Bool) → (b || (c || (d || false))) ≡ (b || (d || (c || false)))
or_swapped true c d = refl
or_swapped false true true = refl
or_swapped false true false = refl
or_swapped false false true = refl
or_swapped false false false = refl

two : (trues : List Literal) (x y : Literal) → status_by trues (x ∷ y ∷ []) ≡ status_by trues (y ∷ x ∷ [])
two trues x y = elim (cases_Bool (same_literal x y)) [
  | inl same ↦ subst (λ z. status_by trues (x ∷ z ∷ []) ≡ status_by trues (z ∷ x ∷ [])) (same_literal-sound x y same) refl
  | inr apart ↦ ap (λ b. cond ((b && true) && not (holds trues x)) (unit x) stuck) apart
      ∙ sym (ap (λ b. cond ((b && true) && not (holds trues y)) (unit y) stuck) (same_literal-differs x y apart))
]

three : (trues : List Literal) (a x y : Literal) →
    status_by trues (a ∷ x ∷ y ∷ []) ≡ status_by trues (a ∷ y ∷ x ∷ [])
three trues a x y = ap (λ b. cond (b && not (holds trues a)) (unit a) stuck)
    (and_swapped (same_literal a x) (same_literal a y))

-- the same of literals that may be missing
short_swapped : (trues : List Literal) {front xs ys : List Literal} → IsShort front → IsShort xs → IsShort ys →
    status_by trues (front ++ (xs ++ ys)) ≡ status_by trues (front ++ (ys ++ xs))
short_swapped trues none none none = refl
short_swapped trues none none (one y) = refl
short_swapped trues none (one x) none = refl
short_swapped trues none (one x) (one y) = two trues x y
short_swapped trues (one a) none none = refl
short_swapped trues (one a) none (one y) = refl
short_swapped trues (one a) (one x) none = refl
short_swapped trues (one a) (one x) (one y) = three trues a x y

pub swapped : (trues : List Literal) (a x y : ℕ) → status_of trues (without_constants (a ∷ x ∷ y ∷ []))
    ≡ status_of trues (without_constants (a ∷ y ∷ x ∷ []))
swapped trues a x y =
    ap (λ (b : Bool). status_of trues (cond b None
    (Some (map as_literal (filter (λ l. not (l == 0)) (a ∷ x ∷ y ∷ []))))))
    (or_swapped (a == 1) (x == 1) (y == 1))
    ∙ by_bit (list_any (λ l. l == 1) (a ∷ y ∷ x ∷ []))
  where
    here : status_by trues (left_of trues (a ∷ x ∷ y ∷ [])) ≡ status_by trues (left_of trues (a ∷ y ∷ x ∷ []))
    here = ap (status_by trues) (parts trues a x y)
        ∙ short_swapped trues (short_of trues a) (short_of trues x) (short_of trues y)
        ∙ ap (status_by trues) (sym (parts trues a y x))

    by_bit : (b : Bool) →
        status_of trues (cond b None (Some (map as_literal (filter (λ l. not (l == 0)) (a ∷ x ∷ y ∷ [])))))
        ≡ status_of trues (cond b None (Some (map as_literal (filter (λ l. not (l == 0)) (a ∷ y ∷ x ∷ [])))))
    by_bit true = refl
    by_bit false = here
