-- Marks of variables.
use Rattle.std.specs.Prelude.{ℕ, ◌==◌, Bool, false, ◌||◌, List, [], ◌∷◌, if◌then◌else◌, slice_index_or}
use Rattle.std.specs.List.{list_any}
use Rattle.dq_lits.specs.Literal.{Literal, variable_of}
use Rattle.learning_trail.specs.declared.trails.Step.{Step}
use Rattle.learning_trail.specs.Steps.{is_decision}

abbrev pub marked : List Bool → ℕ → Bool
marked marks v = slice_index_or marks v false

abbrev pub stands_on : List Literal → ℕ → Bool
stands_on literals v = list_any (λ l. variable_of l == v) literals

-- a literal of the newest level is marked; of all, where nothing was decided
abbrev pub is_level_marked : List Bool → List Step → Bool
is_level_marked marks [] = false
is_level_marked marks (s ∷ earlier) =
    marked marks (variable_of s.literal)
    || (if is_decision s then false else is_level_marked marks earlier)
