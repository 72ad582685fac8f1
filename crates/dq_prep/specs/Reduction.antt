-- Universal reduction (H. Kleine Büning, M. Karpinski, A. Flögel, "Resolution for quantified Boolean
-- formulas", 1995), for dependency sets.
use Rattle.std.specs.Prelude.{ℕ, ◌==◌, Bool, false, not, ◌||◌, List, Option, None, Some, if◌then◌else◌}
use Rattle.std.specs.List.{list_any, filter}
use Rattle.dq_lits.specs.Literal.{Literal, variable_of}
use Rattle.dq_lits.specs.Formula.{Existential, Dqbf, is_universal, existential_of}
use Rattle.dq_lits.specs.Derivation.{is_tautology}

-- the existential, if there is one, depends on the variable
abbrev pub sees_in : ℕ → Option Existential → Bool
sees_in x None = false
sees_in x (Some y) = list_any (λ z. z == x) y.sees

-- some existential of the clause depends on the variable
abbrev pub is_seen : Dqbf → List Literal → ℕ → Bool
is_seen f clause x = list_any (λ l. sees_in x (existential_of f (variable_of l))) clause

-- a universal literal stays where an existential of the clause depends on its variable
abbrev pub stays : Dqbf → List Literal → Literal → Bool
stays f clause l = not (is_universal f (variable_of l)) || is_seen f clause (variable_of l)

-- a clause without the universal literals that don't stay; one with a literal and its negation is
-- left as it is
abbrev pub reduced : Dqbf → List Literal → List Literal
reduced f clause = if is_tautology clause then clause else filter (stays f clause) clause
