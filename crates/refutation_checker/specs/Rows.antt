-- Words of private contracts: rows of the universals, and where they agree.
use Rattle.std.specs.Prelude.{ℕ, Bool, List, [], map, slice_index_or}
use Rattle.dq_lits.specs.Expansion.{row_assignment}
use Rattle.dq_lits.specs.Formula.{Dqbf}
use Rattle.dq_lits.specs.Henkin.{same_bits}

abbrev pub row_of : List (List Bool) → ℕ → List Bool
row_of rows k = slice_index_or rows k []

-- the rows give these universals the same bits
abbrev pub agree_over : Dqbf → List ℕ → List Bool → List Bool → Bool
agree_over f universals r1 r2 =
    same_bits (map (row_assignment f r1) universals) (map (row_assignment f r2) universals)
