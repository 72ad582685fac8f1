-- What the prefix of a DQBF declares, and what it leaves free (DQDIMACS: a variable that occurs in
-- a clause and is not declared is an existential that sees nothing).
use Rattle.std.specs.Prelude.{◌≡◌, ℕ, ◌==◌, ◌≤◌, nat_eq, Bool, not, ◌&&◌, List, [], length, map, Some}
use Rattle.std.specs.List.{All, IsDistinct, list_any, filter, range_with_len}
use Rattle.dq_lits.specs.Literal.{Literal, variable_of}
use Rattle.dq_lits.specs.Formula.{Existential, Dqbf, declared, existential_of, HasLawfulPrefix}
use Rattle.dq_formula.specs.declared.formula.TheConstants.{MAX_VARIABLES, MAX_CLAUSES}
use Rattle.dq_formula.specs.Dependencies.{listed_universals}

abbrev pub is_declared : Dqbf → ℕ → Bool
is_declared f v = list_any (λ x. x == v) (declared f)

-- the variables of the existentials, in order of declaration
abbrev pub existential_variables : Dqbf → List ℕ
existential_variables f = map (λ y. y.variable) f.existentials

-- some clause has a literal on the variable
abbrev pub occurs : List (List Literal) → ℕ → Bool
occurs matrix v = list_any (list_any (λ l. variable_of l == v)) matrix

-- the variables that occur undeclared, in ascending order
abbrev pub free_variables : Dqbf → List ℕ
free_variables f =
    filter (λ v. not (is_declared f v) && occurs f.matrix v) (range_with_len 1 f.variables)

-- these are the undeclared variables that occur in some of the clauses, each once
pub record AreUndeclaredIn (f : Dqbf) (clauses : List (List Literal)) (variables : List ℕ) : Type 0 where
  pub distinct : IsDistinct nat_eq variables
  pub in_range : All (λ v. (1 ≤ v) × (v ≤ f.variables)) variables
  pub complete : (v : ℕ)
      → list_any (λ x. x == v) variables ≡ (not (is_declared f v) && occurs clauses v)

-- an existential that sees nothing
abbrev pub unseeing : ℕ → Existential
unseeing v = record { variable = v; sees = [] }

-- what holds of every formula that is built
pub record IsLawful (f : Dqbf) : Type 0 where
  pub prefix : HasLawfulPrefix f
  -- an existential's variable names it
  pub named : All (λ y. existential_of f y.variable ≡ Some y) f.existentials
  -- a dependency set stands in order of declaration
  pub ordered : All (λ y. y.sees ≡ listed_universals f.universals y.sees) f.existentials
  pub literals_in_range : All (All (λ l. variable_of l ≤ f.variables)) f.matrix
  pub few_variables : f.variables ≤ MAX_VARIABLES
  pub few_clauses : length f.matrix ≤ MAX_CLAUSES
