-- Numbers in two halves of 32 bits.
use Rattle.std.specs.Prelude.{◌≡◌, ℕ, zero, suc, ◌+◌, ◌*◌, ◌-◌, ◌^◌, nat_le, Bool, true, false, List, [], ◌∷◌, length, min, slice_index_or, vec_capacity, if◌then◌else◌}
use Rattle.short_numbers.specs.declared.ShortNumbers.TheInside.{Inside}

-- what a list shows: its numbers, how many of them it has memory for, and the largest number that
-- it can take without more
pub record Numbers : Type 0 where
  pub items : List ℕ
  pub capacity : ℕ
  pub most : ℕ

-- numbers by their lower and higher halves
abbrev pub joined : List ℕ → List ℕ → List ℕ
joined [] highs = []
joined (low ∷ lows) [] = []
joined (low ∷ lows) (high ∷ highs) = (low + high * 2 ^ 32) ∷ joined lows highs

abbrev pub most_of : Bool → ℕ
most_of false = 2 ^ 32 - 1
most_of true = 2 ^ 64 - 1

-- the largest number, where one is asked for
abbrev pub widened : ℕ → ℕ → ℕ
widened most asked = if nat_le asked most then most else most_of true

-- of numbers with two halves or one, and the memory that there is for either half
abbrev pub numbers_of : Bool → List ℕ → List ℕ → ℕ → ℕ → Numbers
numbers_of is_wide lows highs room high_room = record {
  items = if is_wide then joined lows highs else lows;
  capacity = if is_wide then min room high_room else room;
  most = most_of is_wide;
}

abbrev pub numbers_in : Inside → Numbers
numbers_in s = numbers_of s.is_wide s.low.items s.high.items (vec_capacity s.low) (vec_capacity s.high)

-- there are two halves, or one
abbrev pub IsHalved : Inside → Type 0
IsHalved s = length s.high.items ≡ (if s.is_wide then length s.low.items else 0)

-- the number before a place
abbrev pub before : List ℕ → ℕ → ℕ
before items zero = 0
before items (suc i) = slice_index_or items i 0
