-- Rows side by side: bit b of a word is what stands in row b.
use Rattle.std.specs.Prelude.{ℕ, ◌==◌, Bool, List, slice_index_or}
use Rattle.std.specs.Int.{bit_at}

abbrev pub word_bit : ℕ → ℕ → Bool
word_bit b word = bit_at word b == 1

-- the row at a bit of the words, by place: false where there is no word
abbrev pub row_at : List ℕ → ℕ → ℕ → Bool
row_at words b i = word_bit b (slice_index_or words i 0)
