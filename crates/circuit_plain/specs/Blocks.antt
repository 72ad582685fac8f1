-- Rows by blocks: 256 rows with neighbouring numbers side by side, as the bits of four lanes of 64.
-- Bit i of a row's number is the bit of the input at place i.
use Rattle.std.specs.Prelude.{ℕ, ◌+◌, ◌*◌, ◌==◌, Bool, List, [], slice_index, slice_index_or}
use Rattle.std.specs.Int.{bit_at}

-- bit b of lane l
abbrev pub lane_bit : List ℕ → ℕ → ℕ → Bool
lane_bit lanes l b = bit_at (slice_index lanes l) b == 1

-- by variable, the bit in the row that has bit b of lane l
abbrev pub block_bits : List (List ℕ) → ℕ → ℕ → ℕ → Bool
block_bits block l b v = lane_bit (slice_index_or block v []) l b

-- the number of that row, where the block's first row has this number
abbrev pub row_number : ℕ → ℕ → ℕ → ℕ
row_number first l b = first + 64 * l + b

-- by place, the inputs' bits in the row of a number
abbrev pub number_bits : ℕ → ℕ → Bool
number_bits k i = bit_at k i == 1

-- the same where the input at place i has another bit of the number, that at the place which a list
-- gives it
abbrev pub placed_bits : List ℕ → ℕ → ℕ → Bool
placed_bits places k i = bit_at k (slice_index places i) == 1
