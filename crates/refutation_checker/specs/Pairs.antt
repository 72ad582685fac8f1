-- Pairs of a row and an existential, by the existential's variable and the row.
use Rattle.std.specs.Prelude.{ℕ, ◌+◌, ◌*◌, ◌/◌, Bool, List, Option, None, Some, is_some}
use Rattle.std.specs.List.{filter, position_or_len}
use Rattle.dq_lits.specs.Expansion.{agree_on}
use Rattle.dq_lits.specs.Formula.{Existential, Dqbf, existential_of}
use Rattle.dq_lits.specs.Literal.{Literal, variable_of}

abbrev pub first_agreeing : Dqbf → List (List Bool) → Option Existential → List Bool → ℕ
first_agreeing f rows None row = 0
first_agreeing f rows (Some y) row = position_or_len (agree_on f y row) rows

-- the first row that agrees with a row on what the existential sees
abbrev pub first_row : Dqbf → List (List Bool) → ℕ → List Bool → ℕ
first_row f rows v row = first_agreeing f rows (existential_of f v) row

-- the number of the pair
abbrev pub pair_of : Dqbf → List (List Bool) → List Bool → ℕ → ℕ
pair_of f rows row v = first_row f rows v row * f.variables + v

-- how many blocks of 16 so many rows stand in; the last may have fewer
abbrev pub blocks : ℕ → ℕ
blocks rows = rows / 16 + 1

-- the existential literals of a clause
abbrev pub existential_part : Dqbf → List Literal → List Literal
existential_part f clause = filter (λ l. is_some (existential_of f (variable_of l))) clause
