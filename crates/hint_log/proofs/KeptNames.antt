-- The names, as they are kept.
use Rattle.std.proofs.Common.{◌≡◌, ℕ, zero, suc, ◌<◌, length, slice_get, arith, eqb, cond, true, false, true≢false, List, [], ◌∷◌, ◌++◌, Option, Some, None, IsSome, IfSome, IfNone, refl, sym, ap, subst, ◌∙◌}
use Rattle.std.specs.Map.{lookup}
use Rattle.std.proofs.lemmas.Bool.{eqb-true}
use Rattle.hint_log.specs.Entries.{name_of, names_of, Entry, Named}
use Rattle.hint_log.proofs.Logged.{AreNamedOnce}
use Rattle.hint_log.specs.declared.names.Name.{Name}

-- a name more, behind the others: of another variable, or of one that had none
lookup_other : (names : List (ℕ × Name)) (w v : ℕ) (name : Name) → eqb v w ≡ false →
    lookup (eqb v) (names ++ (w, name) ∷ []) ≡ lookup (eqb v) names
lookup_other [] w v name other = ap (λ b. cond b (Some name) None) other
lookup_other (n ∷ names) w v name other = search (arith, (lookup_other names w v name other))

lookup_new : (names : List (ℕ × Name)) (w v : ℕ) (name : Name) → eqb v w ≡ true → lookup (eqb v) names ≡ None →
    lookup (eqb v) (names ++ (w, name) ∷ []) ≡ Some name
lookup_new [] w v name here none = ap (λ b. cond b (Some name) None) here
lookup_new (n ∷ names) w v name here none = search (arith, (lookup_new names w v name here))

pub found_names : (entries : List Entry) (v : ℕ) → AreNamedOnce entries →
    lookup (eqb v) (names_of entries) ≡ name_of entries v
found_names [] v once = refl
found_names (Named w name ∷ entries) v once =
    search (arith, (found_names entries v once.1), lookup_new, eqb-true, lookup_other)
found_names (_ ∷ entries) v once = found_names entries v once

pub no_name : (name : Option Name) → None ≡ name → IsSome name → ⊥
no_name None none some = absurd (true≢false (sym some))
no_name (Some name) none some = cc

-- a place below the length has an element
pub no_gap : {X : Type 0} (xs ys : List X) (i : ℕ) → xs ≡ ys → i < length ys → None ≡ slice_get xs i → ⊥
no_gap xs ys i same lt none = some_there ys i lt (none ∙ ap (λ zs. slice_get zs i) same)
  where
    some_there : {X : Type 0} (zs : List X) (k : ℕ) → k < length zs → None ≡ slice_get zs k → ⊥
    some_there [] k below gap = absurd (omega (arith, below))
    some_there (z ∷ zs) zero below gap = cc
    some_there (z ∷ zs) (suc k) below gap = some_there zs k (omega (arith, below)) gap

pub place_of_kept : (xs ys : List (ℕ × Name)) (v : ℕ) (o : Option ℕ) → xs ≡ ys →
    IfSome o (λ place. (name : Name) × (slice_get xs place ≡ Some (v, name)))
    → IfSome o (λ place. (name : Name) × (slice_get ys place ≡ Some (v, name)))
place_of_kept xs ys v o same there = search arith

pub none_of_kept : (found name : Option Name) (o : Option ℕ) → found ≡ name → IfNone o (found ≡ None) →
    IfNone o (name ≡ None)
none_of_kept found name o same none = subst (λ n. IfNone o (n ≡ None)) same none
