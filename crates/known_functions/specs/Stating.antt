-- Clauses that state a rule by themselves.
use Rattle.std.specs.Prelude.{◌≡◌, ◌==◌, ℕ, Bool, true, false, not, List, Option, None, Some, if◌then◌else◌}
use Rattle.std.specs.List.{Contains, filter_map}
use Rattle.dq_lits.specs.Literal.{Literal, variable_of, is_negative, opposite}
use Rattle.dq_lits.specs.Formula.{Existential}

-- the literal says that the existential e on variable y has the bit, or is on a universal that it
-- sees
pub record FitsRule (y : ℕ) (e : Existential) (bit : Bool) (l : Literal) : Type 0 where
  pub own : (variable_of l == y) ≡ true → is_negative l ≡ not bit
  pub seen : (variable_of l == y) ≡ false → Contains e.sees (variable_of l)

-- what a literal of a clause on an existential puts into the cube of its rule
abbrev pub rest_literal : ℕ → Literal → Option Literal
rest_literal y l = if variable_of l == y then None else Some (opposite l)

abbrev pub rest_cube : ℕ → List Literal → List Literal
rest_cube y clause = filter_map (rest_literal y) clause
