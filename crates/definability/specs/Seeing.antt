-- Where the variables stand that an existential sees, or that its definition may read.
use Rattle.std.specs.Prelude.{◌≡◌, ◌<◌, ◌⊎◌, ℕ, Bool, true, false, List, Some, slice_get}
use Rattle.std.specs.List.{Contains}
use Rattle.definability.specs.Copies.{is_copied_at}

-- the places in a list of the variables of a set
pub record ArePlaces (variables : List ℕ) (set : ℕ → Type 0) (places : List ℕ) : Type 0 where
  pub sound : (p : ℕ) → Contains places p → (x : ℕ) × (slice_get variables p ≡ Some x) × set x
  pub complete : (x : ℕ) → set x → (p : ℕ) × (slice_get variables p ≡ Some x) × Contains places p

-- the places of those that have copies
pub record AreCopiedPlaces (variables : List ℕ) (set : ℕ → Type 0) (flags : List Bool)
    (places : List ℕ) : Type 0 where
  pub sound : (p : ℕ) → Contains places p → (x : ℕ) × (slice_get variables p ≡ Some x) × set x
  pub copied : (p : ℕ) → Contains places p → is_copied_at flags p ≡ true
  pub complete : (x : ℕ) → set x → (p : ℕ) × (slice_get variables p ≡ Some x)
      × (Contains places p ⊎ (is_copied_at flags p ≡ false))

-- those of the first so many
pub record ArePlacesSoFar (universals sees : List ℕ) (i : ℕ) (places : List ℕ) : Type 0 where
  pub sound : (p : ℕ) → Contains places p
      → (x : ℕ) × (slice_get universals p ≡ Some x) × Contains sees x
  pub complete : (k x : ℕ) → k < i → slice_get sees k ≡ Some x
      → (p : ℕ) × (slice_get universals p ≡ Some x) × Contains places p
