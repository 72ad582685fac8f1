-- Which rows are one pair for an existential: those with the same bits where it sees them.
use Rattle.std.specs.Prelude.{◌≡◌, ℕ, ◌<◌, ◌≤◌, ◌-◌, Bool, true, List, length, Some, slice_get}
use Rattle.std.specs.List.{All, Contains, list_all}
use Rattle.dq_lits.specs.Henkin.{same_bit}
use Rattle.dq_lits.specs.Row.{bit_of}

-- the row has these places
abbrev pub HasPlaces : List ℕ → List Bool → Type 0
HasPlaces places row = All (λ p. p < length row) places

-- the inputs have the row's bits at these places
abbrev pub agrees : List ℕ → List Bool → (ℕ → Bool) → Bool
agrees places row inputs = list_all (λ p. same_bit (bit_of row p) (inputs p)) places

-- one of the rounds has a row with the same bits
pub record HasRound (rows : List (List Bool)) (places : List ℕ) (rounds : List ℕ)
    (row : List Bool) : Type 0 where
  pub round : ℕ
  pub among : Contains rounds round
  pub from_one : 1 ≤ round
  pub first : List Bool
  pub at : slice_get rows (round - 1) ≡ Some first
  pub same : agrees places first (bit_of row) ≡ true

-- the rounds of the pairs of the first rows
pub record ArePairRounds (rows : List (List Bool)) (places : List ℕ) (count : ℕ)
    (rounds : List ℕ) : Type 0 where
  pub each : All (λ r. (1 ≤ r) × (r ≤ length rows)) rounds
  pub complete : (k : ℕ) (row : List Bool) → k < count → slice_get rows k ≡ Some row
      → HasRound rows places rounds row
