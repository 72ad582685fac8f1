-- Words of private contracts: gates that are needed, by their places in the order, with all that
-- they read.
use Rattle.std.specs.Prelude.{◌≡◌, ◌⊎◌, ◌<◌, ℕ, Bool, true, List, length, Some, slice_get}
use Rattle.std.specs.List.{AllPairs, Contains}
use Rattle.std.specs.List.Sorted.{IsStrictlyIncreasing}
use Rattle.std.specs.BTreeSet.{contains}
use Rattle.std.specs.Ordering.{nat_cmp}
use Rattle.dq_lits.specs.Literal.{Literal, variable_of}
use Rattle.hint_log.specs.Entries.{Entry, name_of, origin_at}
use Rattle.hint_log.specs.declared.names.Name.TheVariants.{Term}
use Rattle.hint_log.specs.declared.origins.Leaf.{Leaf}
use Rattle.hint_log.specs.declared.origins.Leaf.TheVariants.{Constant, Literal as LeafLiteral}
use Rattle.hint_log.specs.declared.origins.Origin.TheVariants.{TermGate}
use Rattle.number_tables.specs.Numbers.{place_of}
use Rattle.definition_export.specs.declared.places.PlaceSet.{PlaceSet}

abbrev pub is_waiting : PlaceSet → ℕ → Bool
is_waiting set place = contains nat_cmp set.places place

-- the greatest place is taken out
pub record Takes (old new : PlaceSet) (place : ℕ) : Type 0 where
  pub was : is_waiting old place ≡ true
  pub below : (p : ℕ) → is_waiting new p ≡ true → p < place
  pub fewer : (p : ℕ) → is_waiting new p ≡ true → is_waiting old p ≡ true
  pub others : (p : ℕ) → is_waiting old p ≡ true → (p ≡ place → ⊥) → is_waiting new p ≡ true

-- a place more, where the variable has one
abbrev pub IsPlaceOf : List ℕ → ℕ → ℕ → Type 0
IsPlaceOf terms variable place = place_of terms variable ≡ Some place

pub record IsWithPlace (terms : List ℕ) (variable : ℕ) (old new : PlaceSet) : Type 0 where
  pub kept : (p : ℕ) → is_waiting old p ≡ true → is_waiting new p ≡ true
  pub there : (p : ℕ) → IsPlaceOf terms variable p → is_waiting new p ≡ true
  pub only : (p : ℕ) → is_waiting new p ≡ true
      → (is_waiting old p ≡ true) ⊎ IsPlaceOf terms variable p

-- what the gate at a place reads directly
pub record IsSidePlace (entries : List Entry) (terms : List ℕ) (place side : ℕ) : Type 0 where
  pub variable : ℕ
  pub left : Literal
  pub right : Literal
  pub literal : Literal
  pub at : slice_get terms place ≡ Some variable
  pub named : name_of entries variable ≡ Some (Term left right)
  pub either : (literal ≡ left) ⊎ (literal ≡ right)
  pub side_is : IsPlaceOf terms (variable_of literal) side

-- with the places of what the gate at a place reads
pub record IsWithSides (entries : List Entry) (terms : List ℕ) (place : ℕ)
    (old new : PlaceSet) : Type 0 where
  pub kept : (p : ℕ) → is_waiting old p ≡ true → is_waiting new p ≡ true
  pub there : (p : ℕ) → IsSidePlace entries terms place p → is_waiting new p ≡ true
  pub only : (p : ℕ) → is_waiting new p ≡ true
      → (is_waiting old p ≡ true) ⊎ IsSidePlace entries terms place p

-- the place of the leaf's gate
abbrev pub IsLeafWaiting : List ℕ → PlaceSet → Leaf → Type 0
IsLeafWaiting terms set (Constant b) = Unit {0}
IsLeafWaiting terms set (LeafLiteral l) =
    (p : ℕ) → IsPlaceOf terms (variable_of l) p → is_waiting set p ≡ true

-- the place of the gate whose clause has the id
abbrev pub IsGateWaiting : List Entry → List ℕ → PlaceSet → ℕ → Type 0
IsGateWaiting entries terms set id =
    (v i p : ℕ) → origin_at entries id ≡ Some (TermGate v i) → IsPlaceOf terms v p
    → is_waiting set p ≡ true

-- all places are those of gates
abbrev pub AreWithin : List ℕ → PlaceSet → Type 0
AreWithin terms set = (p : ℕ) → is_waiting set p ≡ true → p < length terms

-- places that rise, with all that waited at first and all that their gates read
pub record AreClosed (entries : List Entry) (terms : List ℕ) (first : PlaceSet)
    (places : List ℕ) : Type 0 where
  pub rising : IsStrictlyIncreasing places
  pub within : (p : ℕ) → Contains places p → p < length terms
  pub first_in : (p : ℕ) → is_waiting first p ≡ true → Contains places p
  pub sides_in : (p q : ℕ) → Contains places p → IsSidePlace entries terms p q → Contains places q

-- each is the name of a gate, and no two are one
pub record AreTermNames (entries : List Entry) (terms : List ℕ) : Type 0 where
  pub named : (v : ℕ) → Contains terms v
      → (a : Literal) × (b : Literal) × (name_of entries v ≡ Some (Term a b))
  pub there : (v : ℕ) (a b : Literal) → name_of entries v ≡ Some (Term a b) → Contains terms v
  pub distinct : AllPairs (λ v w. v ≡ w → ⊥) terms
  pub ordered : (p q : ℕ) → IsSidePlace entries terms p q → q < p
