-- Universal expansion: the clauses of the matrix under some rows of the universals.
use Rattle.std.specs.Prelude.{◌≡◌, ℕ, zero, suc, ◌+◌, ◌*◌, ◌/◌, ◌%◌, Bool, true, ◌&&◌, List, length, Option, None, Some, if◌then◌else◌, slice_get}
use Rattle.std.specs.List.{All, list_any, filter_map, position_or_len}
use Rattle.std.specs.Option.{option_map, option_and_then}
use Rattle.dq_lits.specs.Literal.{Assignment, Literal, variable_of, on_variable, literal_true, clause_true}
use Rattle.dq_lits.specs.Formula.{Existential, Dqbf, is_universal, existential_of}
use Rattle.dq_lits.specs.Henkin.{restriction, same_bits}
use Rattle.dq_lits.specs.Row.{assignment_of}

-- a row gives each universal the bit at its place in the order of declaration
abbrev pub row_assignment : Dqbf → List Bool → Assignment
row_assignment f row = assignment_of f.universals row

-- both rows give the existential the same bits to see
abbrev pub agree_on : Dqbf → Existential → List Bool → List Bool → Bool
agree_on f y r1 r2 =
    same_bits (restriction y (row_assignment f r1)) (restriction y (row_assignment f r2))

-- an existential under a row is one pair with each row that agrees: its number is (k - 1) * V + y,
-- where row k, counted from 1, is the first that agrees
abbrev pub pair_number : Dqbf → List (List Bool) → List Bool → Existential → ℕ
pair_number f rows row y = position_or_len (agree_on f y row) rows * f.variables + y.variable

-- an existential literal, on its existential's pair
abbrev pub pair_literal : Dqbf → List (List Bool) → List Bool → Literal → Option Literal
pair_literal f rows row l =
    option_map (λ y. on_variable (pair_number f rows row y) l) (existential_of f (variable_of l))

abbrev pub universal_literal_true : Dqbf → List Bool → Literal → Bool
universal_literal_true f row l =
    is_universal f (variable_of l) && literal_true (row_assignment f row) l

-- no clause where a universal literal is true; else the existential literals, on their pairs
abbrev pub instance_clause : Dqbf → List (List Bool) → List Bool → List Literal
    → Option (List Literal)
instance_clause f rows row clause =
    if list_any (universal_literal_true f row) clause then None
    else Some (filter_map (pair_literal f rows row) clause)

-- with C clauses, clause j under row k, both counted from 1, has the id (k - 1) * C + j
abbrev pub instance_at : Dqbf → List (List Bool) → ℕ → Option (List Literal)
instance_at f rows zero = None
instance_at f rows (suc i) =
    option_and_then
    (λ row. option_and_then (instance_clause f rows row) (slice_get f.matrix (i % length f.matrix)))
    (slice_get rows (i / length f.matrix))

-- where there is a clause, it is true
abbrev pub InstanceHolds : Assignment → Option (List Literal) → Type 0
InstanceHolds m None = Unit {0}
InstanceHolds m (Some clause) = clause_true m clause ≡ true

-- bits of the pairs that make every instance true
abbrev pub IsExpansionModel : Dqbf → List (List Bool) → Assignment → Type 0
IsExpansionModel f rows m =
    All (λ row. All (λ clause. InstanceHolds m (instance_clause f rows row clause)) f.matrix) rows

abbrev pub IsExpansionUnsatisfiable : Dqbf → List (List Bool) → Type 0
IsExpansionUnsatisfiable f rows = (m : Assignment) → IsExpansionModel f rows m → ⊥
