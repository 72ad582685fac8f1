-- How a row is kept: 64 bits a word, the lowest first.
use Rattle.std.specs.Prelude.{ℕ, ◌==◌, ◌*◌, ◌/◌, ◌%◌, ◌≤◌, Bool, List, length, map, slice_index_or}
use Rattle.std.specs.Int.{bit_at}
use Rattle.std.specs.List.{range_with_len}
use Rattle.dq_lits.specs.declared.rows.Row.TheInside.{Inside}

-- bit i of the words
abbrev pub packed_bit : List ℕ → ℕ → Bool
packed_bit words i = bit_at (slice_index_or words (i / 64) 0) (i % 64) == 1

-- the first bits of the words
unfoldable pub unpacked : ℕ → List ℕ → List Bool
unpacked len words = map (packed_bit words) (range_with_len 0 len)

abbrev pub row_inside : Inside → List Bool
row_inside r = unpacked r.len r.words.items

-- the words have room for the bits
abbrev pub HasRoom : Inside → Type 0
HasRoom r = r.len ≤ 64 * length r.words.items
