-- A formula made simpler by the units that were taken.
use Rattle.std.specs.Prelude.{ℕ, suc, ◌==◌, ◌⊎◌, List, [], ◌∷◌, Option, None, Some, if◌then◌else◌}
use Rattle.std.specs.List.{Contains, cons_option}
use Rattle.dq_lits.specs.Literal.{Literal}
use Rattle.dq_lits.specs.Formula.{Dqbf}
use Rattle.dq_prep.specs.declared.traces.Taken.{Taken}
use Rattle.dq_prep.specs.Units.{taken_literals, is_satisfied, left_of, IsUnit}

-- the clause of the unit that was taken at a place
abbrev pub taken_at : ℕ → List Taken → Option (List Literal)
taken_at place [] = None
taken_at place (u ∷ us) = if u.place == place then Some (u.literal ∷ []) else taken_at place us

-- what becomes of the clause at a place: a unit stays, another clause with a literal that was taken
-- goes, and of the others the false literals go, and then what universal reduction takes
abbrev pub kept_clause : Dqbf → List Taken → ℕ → List Literal → Option (List Literal)
kept_clause f units place clause =
    if is_satisfied (taken_literals units) clause then taken_at place units
    else Some (left_of f (taken_literals units) clause)

-- the same of clauses from a place on
abbrev pub kept_clauses : Dqbf → List Taken → ℕ → List (List Literal) → List (List Literal)
kept_clauses f units place [] = []
kept_clauses f units place (clause ∷ clauses) =
    cons_option (kept_clause f units place clause) (kept_clauses f units (suc place) clauses)

-- the prefix stays
abbrev pub simplified_formula : Dqbf → List Taken → Dqbf
simplified_formula f units = record f { matrix = kept_clauses f units 0 f.matrix }

-- no further clause is a unit, or one is empty
abbrev pub IsExhausted : Dqbf → List Taken → Type 0
IsExhausted f units =
    ((u : Taken) → IsUnit f units u → ⊥) ⊎ Contains (kept_clauses f units 0 f.matrix) []
