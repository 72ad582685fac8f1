-- Rows of bits.
use Rattle.std.specs.Prelude.{ℕ, ◌==◌, cond, Bool, false, List, [], ◌∷◌, slice_index_or}
use Rattle.dq_lits.specs.Literal.{Assignment}

-- the bit at a place, counted from 0; false behind the end
abbrev pub bit_of : List Bool → ℕ → Bool
bit_of row i = slice_index_or row i false

-- each of these variables has the bit at its place; others are false
abbrev pub assignment_of : List ℕ → List Bool → Assignment
assignment_of [] _ _ = false
assignment_of (_ ∷ _) [] _ = false
assignment_of (x ∷ xs) (b ∷ bits) v = cond (x == v) b (assignment_of xs bits v)
