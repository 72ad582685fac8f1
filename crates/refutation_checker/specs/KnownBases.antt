-- Words of private contracts: names that are kept by blocks of rows.
use Rattle.std.specs.Prelude.{◌≡◌, ℕ, ◌+◌, ◌*◌, ◌/◌, ◌%◌, ◌<◌, ◌⊎◌, List, length, Option, None, Some, slice_index}
use Rattle.number_tables.specs.Numbers.{place_of}
use Rattle.refutation_checker.specs.Rows.{row_of}
use Rattle.refutation_checker.specs.Namings.{Frame, Names, base_of}
use Rattle.refutation_checker.specs.Pairs.{blocks}

abbrev pub kept_at : List ℕ → Option ℕ → ℕ → ℕ
kept_at bases None place = 0
kept_at bases (Some block) place = slice_index bases (block * 16 + place)

-- what is kept for a place of a block; 0 where nothing is
abbrev pub kept : List ℕ → List ℕ → ℕ → ℕ → ℕ
kept numbers bases number place = kept_at bases (place_of numbers number) place

-- the number of a dependency set and the block of the row at k
abbrev pub block_number : Frame → ℕ → ℕ → ℕ
block_number x c k = c * blocks (length x.rows) + k / 16

-- what is kept is right
pub record AreKept (x : Frame) (n : Names) (numbers bases : List ℕ) : Type 0 where
  pub as_many : length bases ≡ length numbers * 16
  pub are : (c k : ℕ) → c < length x.sets → k < length x.rows
      → (kept numbers bases (block_number x c k) (k % 16) ≡ 0)
      ⊎ (base_of x n c (row_of x.rows k) ≡ Some (kept numbers bases (block_number x c k) (k % 16)))

abbrev pub AreSameKept : List ℕ → List ℕ → List ℕ → List ℕ → Type 0
AreSameKept numbers bases numbers' bases' = (m q : ℕ) → q < 16
    → kept numbers' bases' m q ≡ kept numbers bases m q

-- as before, or with a base more
abbrev pub IsKeptOrNew : List ℕ → List ℕ → List ℕ → List ℕ → ℕ → ℕ → ℕ → Type 0
IsKeptOrNew numbers bases numbers' bases' number place base = (m q : ℕ) → q < 16
    → (kept numbers' bases' m q ≡ kept numbers bases m q)
    ⊎ ((m ≡ number) × (q ≡ place) × (kept numbers' bases' m q ≡ base))
