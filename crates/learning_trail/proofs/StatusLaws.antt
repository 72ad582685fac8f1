-- How clauses stand under true literals.
use Rattle.std.proofs.Common.{◌≡◌, ◌≢◌, true, false, inl, inr, List, [], ◌∷◌, Some, refl, ap, arith}
use Rattle.std.specs.List.{list_all}
use Rattle.std.proofs.lemmas.Bool.{cases_Bool, false≢true, and_parts, and_from, not-true}
use Rattle.dq_lits.specs.Literal.{Literal, opposite, same_literal}
use Rattle.dq_lits.specs.Derivation.{falsified, unit, stuck, holds, status_by, status_of}
use Rattle.dq_lits.proofs.Truth.{same_literal-sound}
use Rattle.dq_lits.proofs.SignedLiterals.{same_literal-refl}
use Rattle.dq_lits.proofs.HeldLiterals.{left_among, holds_cases, holds_here, holds_later}
use Rattle.dq_lits.specs.Extension.{not_false}
use Rattle.dq_lits.specs.Truth.{IsFree}

none_left : (trues clause : List Literal) → ((l : Literal) → holds clause l ≡ true → holds trues (opposite l) ≡ true) →
    not_false trues clause ≡ []
none_left trues [] h = refl
none_left trues (x ∷ c) h = search (arith, holds_here, holds_later, (none_left trues c))

pub is_falsified : (trues clause : List Literal) → ((l : Literal) → holds clause l ≡ true →
    holds trues (opposite l) ≡ true) → status_of trues (Some clause) ≡ falsified
is_falsified trues clause h = ap (status_by trues) (none_left trues clause h)

-- every literal that is left is q
left_same : (trues clause : List Literal) (q : Literal) → ((l : Literal) → holds clause l ≡ true → l ≢ q →
    holds trues (opposite l) ≡ true)
    → list_all (same_literal q) (not_false trues clause) ≡ true
left_same trues [] q h = refl
left_same trues (x ∷ c) q h =
    search (
      arith,
      holds_later,
      cases_Bool,
      false≢true,
      holds_here,
      same_literal-refl,
      and_from,
      (left_same trues c q),
    )

left_holds : (trues clause : List Literal) (q : Literal) → holds clause q ≡ true → holds trues (opposite q) ≡ false →
    holds (not_false trues clause) q ≡ true
left_holds trues [] q m n = absurd (false≢true m)
left_holds trues (x ∷ c) q m n =
    search (arith, holds_cases, holds_here, cases_Bool, holds_later, (left_holds trues c q))

-- a list that holds q, and only q
only_by : (trues left : List Literal) (q : Literal) → list_all (same_literal q) left ≡ true → holds left q ≡ true →
    holds trues q ≡ false → status_by trues left ≡ unit q
only_by trues [] q a b f = absurd (false≢true b)
only_by trues (x ∷ xs) q a b f = search (arith, and_parts, same_literal-sound)

pub is_unit : (trues clause : List Literal) (q : Literal) → holds clause q ≡ true →
    ((l : Literal) → holds clause l ≡ true → l ≢ q → holds trues (opposite l) ≡ true)
    → IsFree trues q → status_of trues (Some clause) ≡ unit q
is_unit trues clause q m others free = only_by trues (not_false trues clause) q (left_same trues clause q others)
    (left_holds trues clause q m free.1) free.0

-- what a unit says of its clause
pub record IsImplied (trues clause : List Literal) (q : Literal) : Type 0 where
  pub among : holds clause q ≡ true
  pub others : (l : Literal) → holds clause l ≡ true → l ≢ q → holds trues (opposite l) ≡ true
  pub free : IsFree trues q

all_holds : (x : Literal) (xs : List Literal) (l : Literal) → list_all (same_literal x) xs ≡ true →
    holds xs l ≡ true → l ≡ x
all_holds x [] l a m = absurd (false≢true m)
all_holds x (y ∷ ys) l a m = search (arith, and_parts, holds_cases, same_literal-sound, (all_holds x ys l))

pub implied_from : (trues clause : List Literal) (q : Literal) → status_of trues (Some clause) ≡ unit q →
    IsImplied trues clause q
implied_from trues clause q e = by_left (not_false trues clause) (λ l m n. left_holds trues clause l m n)
    (λ l m. left_among trues clause l m) e
  where
    by_left : (left : List Literal) → ((l : Literal) → holds clause l ≡ true → holds trues (opposite l) ≡ false →
        holds left l ≡ true)
        → ((l : Literal) → holds left l ≡ true → (holds clause l ≡ true) × (holds trues (opposite l) ≡ false))
        → status_by trues left ≡ unit q → IsImplied trues clause q
    by_left [] has among g = cc
    by_left (x ∷ xs) has among g = search (arith, cases_Bool, and_parts, holds_here, holds_cases, all_holds, not-true)

-- two different literals that aren't false
pub stuck_from_two : (trues clause : List Literal) (k l : Literal) → holds clause k ≡ true →
    holds clause l ≡ true → k ≢ l
    → holds trues (opposite k) ≡ false → holds trues (opposite l) ≡ false → status_of trues (Some clause) ≡ stuck
stuck_from_two trues clause k l mk ml n fk fl = by_left (not_false trues clause) (left_holds trues clause k mk fk)
    (left_holds trues clause l ml fl)
  where
    by_left : (left : List Literal) → holds left k ≡ true → holds left l ≡ true → status_by trues left ≡ stuck
    by_left [] a b = absurd (false≢true a)
    by_left (x ∷ xs) a b = search (arith, cases_Bool, and_from, same_literal-refl, all_holds)

-- what falsified says of each literal
pub falsified_tells : (trues clause : List Literal) → status_of trues (Some clause) ≡ falsified → (l : Literal) →
    holds clause l ≡ true → holds trues (opposite l) ≡ true
falsified_tells trues clause e l m =
    elim (cases_Bool (holds trues (opposite l))) [
      | inl t ↦ t
      | inr f ↦ absurd (by_left (not_false trues clause) e (left_holds trues clause l m f))
    ]
  where
    by_left : (left : List Literal) → status_by trues left ≡ falsified → holds left l ≡ true → ⊥
    by_left [] g h = false≢true h
    by_left (x ∷ xs) g h = search arith

-- one true literal
pub stuck_from_true : (trues clause : List Literal) (l : Literal) → holds clause l ≡ true → holds trues l ≡ true →
    holds trues (opposite l) ≡ false → status_of trues (Some clause) ≡ stuck
stuck_from_true trues clause l m on off = by_left (not_false trues clause) (left_holds trues clause l m off)
  where
    by_left : (left : List Literal) → holds left l ≡ true → status_by trues left ≡ stuck
    by_left [] h = absurd (false≢true h)
    by_left (x ∷ xs) h = search (arith, cases_Bool, and_from, same_literal-refl, all_holds)
