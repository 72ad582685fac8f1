-- Dependency sets against each other.
use Rattle.std.specs.Prelude.{◌≡◌, ℕ, ◌==◌, ◌≤◌, ◌<◌, List, length, map, Some, slice_get, slice_index}
use Rattle.std.specs.List.{position_or_len}
use Rattle.dq_lits.specs.Formula.{Existential, Dqbf}

-- where variables stand among the universals
abbrev pub universal_places : Dqbf → List ℕ → List ℕ
universal_places f variables = map (λ x. position_or_len (λ u. u == x) f.universals) variables

-- an existential at or before a place has the same dependency set as the one there
pub record IsLeader (f : Dqbf) (leader place : ℕ) : Type 0 where
  pub not_behind : leader ≤ place
  pub same_set : (y : Existential) → slice_get f.existentials place ≡ Some y
      → (z : Existential) × (slice_get f.existentials leader ≡ Some z) × (z.sees ≡ y.sees)

pub record AreLeaders (f : Dqbf) (leaders : List ℕ) : Type 0 where
  pub many : length leaders ≡ length f.existentials
  pub each : (place : ℕ) → place < length f.existentials
      → IsLeader f (slice_index leaders place) place
