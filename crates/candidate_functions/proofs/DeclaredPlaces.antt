-- Each declared variable stands at one place, and what is read is read through the universals' places.
use Rattle.std.proofs.Common.{◌≡◌, ℕ, ◌<◌, ◌==◌, List, map, length, get_or, slice_get, None, Some, position, sym, ◌∙◌, ap}
use Rattle.std.specs.List.{All, Contains}
use Rattle.std.proofs.lemmas.List.{get_or-map, length-map}
use Rattle.std.proofs.lemmas.List.Elements.{All-map}
use Rattle.std.proofs.lemmas.Option.{slice_get_within, get_or_from_slice_get}
use Rattle.list_laws.proofs.Members.{all_from_contains}
use Rattle.dq_lits.specs.Formula.{Existential}
use Rattle.dq_formula.proofs.Subsets.{none_contained}
use Rattle.definition_order.proofs.Declared.{variable}

pub all_mapped : (P : ℕ → Type 0) (g : ℕ → ℕ) (xs : List ℕ) → ((i : ℕ) → Contains xs i → P (g i)) → All P (map g xs)
all_mapped P g xs each = All-map P g xs (all_from_contains (λ i. P (g i)) xs each)

pub unplaced : (ys : List Existential) (w p : ℕ) (y : Existential) → position (λ v. v == w) (map variable ys) ≡ None →
    slice_get ys p ≡ Some y → w ≡ y.variable → ⊥
unplaced ys w p y none at same =
    let lt : p < length ys = slice_get_within ys p y at in
    let here : get_or (map variable ys) p w ≡ w = get_or-map variable ys p y w lt ∙ ap variable
    (get_or_from_slice_get ys p y y at) ∙ sym same in
    none_contained (map variable ys) w none (p, rw (length-map ys variable) lt, here)
