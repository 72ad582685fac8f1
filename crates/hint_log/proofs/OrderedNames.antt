-- Names of variables that are named one after the other, and others behind them.
use Rattle.std.proofs.Common.{◌≡◌, ℕ, zero, suc, ◌+◌, ◌-◌, ◌≤◌, ◌<◌, ◌⊎◌, eqb, cond, not, nat_lt, Bool, true, false, List, [], ◌∷◌, ◌++◌, length, get_or, slice_get, is_some, Option, None, Some, refl, sym, ◌∙◌, ap, subst, arith, append_assoc}
use Rattle.std.specs.List.{AllByRecursion, position, position_or_len}
use Rattle.std.specs.Map.{keys_of, lookup}
use Rattle.std.proofs.lemmas.Bool.{eqb-true, eqb-false, ne_eqb}
use Rattle.std.proofs.lemmas.Bool.Decides.{nat_tests}
use Rattle.std.proofs.lemmas.List.{append-nil}
use Rattle.indexmap.specs.IndexMap.{insert_entry}
use Rattle.hint_log.specs.Kept.{names_from}
use Rattle.hint_log.specs.declared.names.Name.{Name}
use Rattle.hint_log.specs.declared.names.Name.TheVariants.{Selector}

pub length_from : (n : ℕ) (xs : List Name) → length (names_from n xs) ≡ length xs
length_from n [] = refl
length_from n (x ∷ xs) = ap suc (length_from (n + 1) xs)

from_push : (n : ℕ) (xs : List Name) (x : Name) →
    names_from n (xs ++ x ∷ []) ≡ names_from n xs ++ (n + length xs, x) ∷ []
from_push n [] x = let same : n ≡ n + 0 = omega arith in ap (λ v. (v, x) ∷ []) same
from_push n (y ∷ ys) x = search (arith, (from_push (n + 1) ys x))

-- the name at a place: in order, or behind
pub at_from : (n : ℕ) (xs : List Name) (ys : List (ℕ × Name)) (i : ℕ) (d : Name) → i < length xs →
    slice_get (names_from n xs ++ ys) i ≡ Some (n + i, get_or xs i d)
at_from n [] ys i d below = absurd (omega (arith, below))
at_from n (x ∷ xs) ys zero d below = let same : n ≡ n + 0 = omega arith in ap (λ v. Some (v, x)) same
at_from n (x ∷ xs) ys (suc i) d below = search (arith, (at_from (n + 1) xs ys i d))

pub at_behind : (n : ℕ) (xs : List Name) (ys : List (ℕ × Name)) (i : ℕ) → length xs ≤ i →
    slice_get (names_from n xs ++ ys) i ≡ slice_get ys (i - length xs)
at_behind n [] ys i past = let same : i ≡ i - 0 = omega arith in ap (slice_get ys) same
at_behind n (x ∷ xs) ys zero past = absurd (omega (arith, past))
at_behind n (x ∷ xs) ys (suc i) past = search (arith, (at_behind (n + 1) xs ys i))

-- the name of a variable: in order, or behind
pub lookup_from : (n : ℕ) (xs : List Name) (ys : List (ℕ × Name)) (v : ℕ) (d : Name) → n ≤ v → v < n + length xs →
    lookup (eqb v) (names_from n xs ++ ys) ≡ Some (get_or xs (v - n) d)
lookup_from n [] ys v d low high = absurd (omega (arith, low, high))
lookup_from n (x ∷ xs) ys v d low high = search (arith, (lookup_from (n + 1) xs ys v d), eqb-true, eqb-false)

pub lookup_behind : (n : ℕ) (xs : List Name) (ys : List (ℕ × Name)) (v : ℕ) → (v < n) ⊎ (n + length xs ≤ v) →
    lookup (eqb v) (names_from n xs ++ ys) ≡ lookup (eqb v) ys
lookup_behind n [] ys v outside = refl
lookup_behind n (x ∷ xs) ys v outside = search (arith, ne_eqb, (lookup_behind (n + 1) xs ys v))

-- one more in order, where none is behind
pub in_order : (xs more : List Name) (ys : List (ℕ × Name)) (v : ℕ) (x : Name) → more ≡ xs ++ x ∷ [] → ys ≡ [] →
    v ≡ length xs + 1 → names_from 1 more ++ ys ≡ (names_from 1 xs ++ ys) ++ (v, x) ∷ []
in_order xs more ys v x more_is none v_is =
    let same : 1 + length xs ≡ v = omega (arith, v_is) in
    ap (λ zs. names_from 1 zs ++ ys) more_is ∙ ap (λ zs. names_from 1 (xs ++ x ∷ []) ++ zs) none
    ∙ append-nil (names_from 1 (xs ++ x ∷ [])) ∙ from_push 1 xs x
    ∙ ap (λ k. names_from 1 xs ++ (k, x) ∷ []) same
    ∙ ap (λ zs. zs ++ (v, x) ∷ []) (sym (append-nil (names_from 1 xs)) ∙ ap (λ zs. names_from 1 xs ++ zs) (sym none))

insert_absent : (entries : List (ℕ × Name)) (k : ℕ) (v : Name) → AllByRecursion (λ e. eqb k e.0 ≡ false) entries
    → insert_entry eqb entries k v ≡ entries ++ (k, v) ∷ []
insert_absent [] k v absent = refl
insert_absent (e ∷ entries) k v absent = search (arith, (insert_absent entries k v absent.1))

absent_behind : (k : ℕ) (xs ys : List (ℕ × Name)) → AllByRecursion (λ e. eqb k e.0 ≡ false) (xs ++ ys) →
    AllByRecursion (λ e. eqb k e.0 ≡ false) ys
absent_behind k [] ys absent = absent
absent_behind k (x ∷ xs) ys absent = absent_behind k xs ys absent.1

-- or one more behind
pub out_of_order : (xs : List Name) (ys more : List (ℕ × Name)) (v : ℕ) (x : Name) →
    AllByRecursion (λ e. eqb v e.0 ≡ false) (names_from 1 xs ++ ys) → more ≡ insert_entry eqb ys v x →
    names_from 1 xs ++ more ≡ (names_from 1 xs ++ ys) ++ (v, x) ∷ []
out_of_order xs ys more v x absent is = search (arith, insert_absent, absent_behind, append_assoc)

-- a list of length 0 has nothing
pub none_there : (ys : List (ℕ × Name)) → length ys ≡ 0 → ys ≡ []
none_there [] h = refl
none_there (y ∷ ys) h = absurd (omega (arith, h))

-- a key that is found is at its place
at_key : (ys : List (ℕ × Name)) (v : ℕ) → position_or_len (eqb v) (keys_of ys) < length (keys_of ys) →
    (name : Name) × (slice_get ys (position_or_len (eqb v) (keys_of ys)) ≡ Some (v, name))
at_key [] v below = absurd (omega (arith, below))
at_key (y ∷ ys) v below = by_bit (eqb v y.0) refl (at_key ys v) below where
  by_bit : (b : Bool) → eqb v y.0 ≡ b → (position_or_len (eqb v) (keys_of ys) < length (keys_of ys)
      → (name : Name) × (slice_get ys (position_or_len (eqb v) (keys_of ys)) ≡ Some (v, name))) →
      cond (not b) (1 + position_or_len (eqb v) (keys_of ys)) 0 < suc (length (keys_of ys)) →
      (name : Name) × (slice_get (y ∷ ys) (cond (not b) (1 + position_or_len (eqb v) (keys_of ys)) 0)
      ≡ Some (v, name))
  by_bit true same later h = (y.1, ap (λ n. Some (n, y.1)) (sym (eqb-true v y.0 same)))
  by_bit false other later h = search arith

at_position : (ys : List (ℕ × Name)) (v i : ℕ) → position (eqb v) (keys_of ys) ≡ Some i →
    (name : Name) × (slice_get ys i ≡ Some (v, name))
at_position ys v i found = by_bit (nat_lt (position_or_len (eqb v) (keys_of ys)) (length (keys_of ys))) refl found where
  by_bit : (b : Bool) → nat_lt (position_or_len (eqb v) (keys_of ys)) (length (keys_of ys)) ≡ b →
      cond b (Some (position_or_len (eqb v) (keys_of ys))) None ≡ Some i
      → (name : Name) × (slice_get ys i ≡ Some (v, name))
  by_bit true less h =
      let below : position_or_len (eqb v) (keys_of ys) < length (keys_of ys) = grind (arith, nat_tests) in
      let same : position_or_len (eqb v) (keys_of ys) ≡ i = cc in
      subst (λ n. (name : Name) × (slice_get ys n ≡ Some (v, name))) same (at_key ys v below)
  by_bit false not_less h = cc

pub found_behind : (xs : List Name) (ys names : List (ℕ × Name)) (v i place : ℕ) → names_from 1 xs ++ ys ≡ names →
    position (eqb v) (keys_of ys) ≡ Some i → place ≡ length xs + i →
    (name : Name) × (slice_get names place ≡ Some (v, name))
found_behind xs ys names v i place are found is = search (arith, at_position, at_behind)

pub name_at_place : (xs : List Name) (ys names : List (ℕ × Name)) (v : ℕ) → names_from 1 xs ++ ys ≡ names → 1 ≤ v →
    v ≤ length xs → (name : Name) × (slice_get names (v - 1) ≡ Some (v, name))
name_at_place xs ys names v are low most =
    let d = Selector 0 in
    let same : 1 + (v - 1) ≡ v = omega (arith, low) in (
      get_or xs (v - 1) d,
      ap (λ ns. slice_get ns (v - 1)) (sym are)
          ∙ at_from 1 xs ys (v - 1) d (omega (arith, low, most)) ∙ ap (λ n. Some (n, get_or xs (v - 1) d)) same,
    )

pub none_found : {X : Type 0} (o : Option X) → is_some o ≡ false → o ≡ None
none_found None h = refl
none_found (Some x) h = cc
