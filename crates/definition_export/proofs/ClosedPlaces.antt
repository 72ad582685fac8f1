-- Needed gates by their places: the greatest is taken out, and what its gate reads is added, until
-- none waits.
use Rattle.std.proofs.Common.{◌≡◌, ℕ, zero, suc, ◌+◌, ◌<◌, ◌==◌, ◌⊎◌, true, false, true≢false, List, [], ◌∷◌, ◌++◌, length, get_or, slice_get, slice_index, OnOk, Result, Ok, Err, Some, Contains, inl, inr, refl, sym, ap, ◌∙◌, subst, arith}
use Rattle.std.specs.List.{All}
use Rattle.std.specs.List.Sorted.{IsStrictlyIncreasing}
use Rattle.std.proofs.lemmas.Bool.{cases_Bool, eqb-true, eqb-false}
use Rattle.std.proofs.lemmas.List.{get_or_default}
use Rattle.std.proofs.lemmas.List.Elements.{All-push}
use Rattle.std.proofs.lemmas.Option.{slice_get-get_or}
use Rattle.dq_lits.specs.Literal.{Literal, variable_of}
use Rattle.dq_lits.specs.declared.memory.Memory.{Memory}
use Rattle.hint_log.specs.Entries.{Entry, name_of}
use Rattle.hint_log.specs.declared.names.Name.TheVariants.{Term}
use Rattle.definition_export.specs.Closing.{is_waiting, Takes, IsWithPlace, IsSidePlace, IsWithSides, IsGateWaiting, AreWithin, AreClosed, AreTermNames}
use Rattle.definition_export.specs.declared.places.PlaceSet.{PlaceSet}

-- both sides of a gate were added
pub sides_added : (entries : List Entry) (terms : List ℕ) (place v : ℕ) (a b : Literal) (old mid new : PlaceSet) →
    slice_get terms place ≡ Some v → name_of entries v ≡ Some (Term a b) →
    IsWithPlace terms (variable_of a) old mid → IsWithPlace terms (variable_of b) mid new →
    IsWithSides entries terms place old new
sides_added entries terms place v a b old mid new at named first second = search arith

-- the same, where the second one may be refused
pub both_added : (entries : List Entry) (terms items : List ℕ) (place : ℕ) (a b : Literal) (old mid new : PlaceSet)
    (r : Result (Unit {0}) Memory) → items ≡ terms → place < length terms →
    name_of entries (get_or items place 0) ≡ Some (Term a b) → (v w : ℕ) → v ≡ variable_of a → w ≡ variable_of b →
    IsWithPlace terms v old mid → OnOk r (IsWithPlace terms w mid new) →
    OnOk r (IsWithSides entries terms place old new)
both_added entries terms items place a b old mid new (Err e) is small named v w v_is w_is first second = tt
both_added entries terms items place a b old mid new (Ok u) is small named v w v_is w_is first second =
    search (arith, slice_get-get_or, sides_added)

-- a place's gate has a name
pub term_there : (entries : List Entry) (terms items : List ℕ) (place : ℕ) → AreTermNames entries terms →
    items ≡ terms → place < length terms →
    (a : Literal) × (b : Literal) × (name_of entries (get_or items place 0) ≡ Some (Term a b))
term_there entries terms items place names is small =
    let at : get_or terms place 0 ≡ get_or items place 0 = ap (λ xs. get_or xs place 0) (sym is) in
    let own : get_or terms place (get_or items place 0) ≡ get_or items place 0 =
    get_or_default terms place (get_or items place 0) 0 small ∙ at in
    names.named (get_or items place 0) (place, small, own)

-- what was taken out, least first, and what waits
pub record IsClosing (entries : List Entry) (terms : List ℕ) (first now : PlaceSet) (up : List ℕ) : Type 0 where
  pub rising : IsStrictlyIncreasing up
  pub below : (p : ℕ) → is_waiting now p ≡ true → p < get_or up 0 (length terms)
  pub within : (p : ℕ) → Contains up p → p < length terms
  pub first_in : (p : ℕ) → is_waiting first p ≡ true → (is_waiting now p ≡ true) ⊎ Contains up p
  pub sides_in : (p q : ℕ) → Contains up p → IsSidePlace entries terms p q →
      (is_waiting now q ≡ true) ⊎ Contains up q

nothing : (v : ℕ) → Contains {X = ℕ} [] v → ⊥
nothing v (k, lt, at) = omega (arith, lt)

pub closing_first : (entries : List Entry) (terms : List ℕ) (first : PlaceSet) → AreWithin terms first →
    IsClosing entries terms first first []
closing_first entries terms first within = search arith

pub closing_more : (entries : List Entry) (terms : List ℕ) (first before taken after : PlaceSet) (at : ℕ)
    (up : List ℕ) → AreTermNames entries terms → IsClosing entries terms first before up → Takes before taken at →
    IsWithSides entries terms at taken after → at < length terms → IsClosing entries terms first after (at ∷ up)
closing_more entries terms first before taken after at up names so_far takes added small = record {
  rising = ascends;
  below = λ p h. elim (added.only p h) [
    | inl old ↦ takes.below p old
    | inr side ↦ names.ordered at p side
  ];
  within = λ p has. elim (head_or_tail p has) [
    | inl here ↦ subst (λ n. n < length terms) (sym here) small
    | inr behind ↦ so_far.within p behind
  ];
  first_in = λ p h. elim (so_far.first_in p h) [ inl was ↦ stays p was | inr has ↦ inr (later p has) ];
  sides_in = λ p q has side. elim (head_or_tail p has) [
    | inl here ↦ inl (added.there q (subst (λ n. IsSidePlace entries terms n q) here side))
    | inr behind ↦ elim (so_far.sides_in p q behind side) [
      | inl was ↦ stays q was
      | inr has_side ↦ inr (later q has_side)
    ]
  ];
} where
  later : (v : ℕ) → Contains up v → Contains (at ∷ up) v
  later v (k, lt, is) = (suc k, omega (arith, lt), is)

  head_or_tail : (v : ℕ) → Contains (at ∷ up) v → (v ≡ at) ⊎ Contains up v
  head_or_tail v (zero, lt, is) = inl (sym is)
  head_or_tail v (suc k, lt, is) = inr (k, omega (arith, lt), is)

  stays : (v : ℕ) → is_waiting before v ≡ true → (is_waiting after v ≡ true) ⊎ Contains (at ∷ up) v
  stays v was = elim (cases_Bool (v == at)) [
    | inl same ↦ inr (0, omega arith, sym (eqb-true v at same))
    | inr other ↦ inl (added.kept v (takes.others v was (eqb-false v at other)))
  ]

  ascends : IsStrictlyIncreasing (at ∷ up)
  ascends zero lt = let low = so_far.below at takes.was in first_step up low lt where
    first_step : (ys : List ℕ) → at < get_or ys 0 (length terms) → 0 + 1 < length (at ∷ ys) →
        slice_index (at ∷ ys) 0 < slice_index (at ∷ ys) (0 + 1)
    first_step [] low lt = absurd (omega (arith, lt))
    first_step (y ∷ ys) low lt = low
  ascends (suc k) lt =
      let step : suc k + 1 ≡ suc (k + 1) = omega arith in
      subst (λ n. slice_index (at ∷ up) (suc k) < slice_index (at ∷ up) n) (sym step)
      (so_far.rising k (omega (arith, lt)))

-- a place that waits is that of a gate
pub waiting_within : (entries : List Entry) (terms : List ℕ) (first now : PlaceSet) (up : List ℕ) →
    IsClosing entries terms first now up → (p : ℕ) → is_waiting now p ≡ true → p < length terms
waiting_within entries terms first now up so_far p h = by_list up so_far.within (so_far.below p h) where
  by_list : (xs : List ℕ) → ((q : ℕ) → Contains xs q → q < length terms) → p < get_or xs 0 (length terms) →
      p < length terms
  by_list [] within low = low
  by_list (x ∷ xs) within low = let top = within x (0, omega arith, refl) in omega (arith, low, top)

pub all_closed : (entries : List Entry) (terms : List ℕ) (first now : PlaceSet) (up : List ℕ) →
    IsClosing entries terms first now up → ((p : ℕ) → is_waiting now p ≡ false) → AreClosed entries terms first up
all_closed entries terms first now up so_far empty = record {
  rising = so_far.rising;
  within = so_far.within;
  first_in = λ p h. inside p (so_far.first_in p h);
  sides_in = λ p q has side. inside q (so_far.sides_in p q has side);
} where
  inside : (v : ℕ) → (is_waiting now v ≡ true) ⊎ Contains up v → Contains up v
  inside v (inl was) = absurd (true≢false (sym was ∙ empty v))
  inside v (inr has) = has

-- gates whose clauses have some ids wait
pub record AreUsedSoFar (entries : List Entry) (terms ids : List ℕ) (old new : PlaceSet) : Type 0 where
  pub within : AreWithin terms old → AreWithin terms new
  pub kept : (p : ℕ) → is_waiting old p ≡ true → is_waiting new p ≡ true
  pub there : All (IsGateWaiting entries terms new) ids

pub one_used : (entries : List Entry) (terms ids : List ℕ) (id : ℕ) (old mid new : PlaceSet) →
    AreUsedSoFar entries terms ids old mid → (AreWithin terms mid → AreWithin terms new) →
    ((p : ℕ) → is_waiting mid p ≡ true → is_waiting new p ≡ true) → IsGateWaiting entries terms new id →
    AreUsedSoFar entries terms (ids ++ id ∷ []) old new
one_used entries terms ids id old mid new so_far within kept here = record {
  within = λ h. within (so_far.within h);
  kept = λ p h. kept p (so_far.kept p h);
  there = All-push (IsGateWaiting entries terms new) ids id
      (λ k d low v i p at is. kept p (so_far.there k d low v i p at is)) here;
}
