-- How a formula lies in memory: the dependency sets in a map from the existentials.
use Rattle.std.specs.Prelude.{◌≡◌, ℕ, ◌==◌, ◌≤◌, nat_eq, false, List, length, map}
use Rattle.std.specs.List.{All, IsDistinct, list_any}
use Rattle.std.specs.Map.{keys_of, values_of}
use Rattle.dq_lits.specs.Literal.{Literal, variable_of}
use Rattle.dq_lits.specs.Formula.{Existential, Dqbf}
use Rattle.dq_formula.specs.declared.formula.TheConstants.{MAX_VARIABLES, MAX_CLAUSES}
use Rattle.dq_formula.specs.declared.dependencies.Deps.{Deps}
use Rattle.dq_formula.specs.declared.dependencies.Deps.TheVariants.{FirstOf}
use Rattle.dq_formula.specs.Dependencies.{dependencies, IsDependencySet}

-- an existential with its dependency set
abbrev pub existential : List ℕ → ℕ × Deps → Existential
existential universals entry = record { variable = entry.0; sees = dependencies universals entry.1 }

-- the entry of an existential that sees nothing
abbrev pub unseeing_entry : ℕ → ℕ × Deps
unseeing_entry v = (v, FirstOf 0)

abbrev pub formula_of : ℕ → List ℕ → List (ℕ × Deps) → List (List Literal) → Dqbf
formula_of variables universals entries matrix = record {
  variables = variables;
  universals = universals;
  existentials = map (existential universals) entries;
  matrix = matrix;
}

abbrev pub IsInRange : ℕ → ℕ → Type 0
IsInRange variables v = (1 ≤ v) × (v ≤ variables)

-- what every formula keeps
pub record IsKept (variables : ℕ) (universals : List ℕ) (entries : List (ℕ × Deps))
    (matrix : List (List Literal)) : Type 0 where
  pub universals_in_range : All (IsInRange variables) universals
  pub existentials_in_range : All (IsInRange variables) (keys_of entries)
  pub distinct_universals : IsDistinct nat_eq universals
  pub distinct_existentials : IsDistinct nat_eq (keys_of entries)
  pub disjoint : All (λ y. list_any (λ x. x == y) universals ≡ false) (keys_of entries)
  pub sets : All (IsDependencySet universals) (values_of entries)
  pub literals_in_range : All (All (λ l. variable_of l ≤ variables)) matrix
  pub few_variables : variables ≤ MAX_VARIABLES
  pub few_clauses : length matrix ≤ MAX_CLAUSES
