-- What a dependency quantified Boolean formula (DQBF) is: a prefix and a matrix (QDIMACS with `d`
-- lines).
use Rattle.std.specs.Prelude.{ℕ, ◌≤◌, ◌≢◌, ◌==◌, Bool, List, ◌++◌, map, Option}
use Rattle.std.specs.List.{All, AllPairs, Contains, find, list_any}
use Rattle.dq_lits.specs.Literal.{Literal, variable_of}

-- an existential variable with its dependency set: the universals that it may see, in order of
-- declaration
pub record Existential : Type 0 where
  pub variable : ℕ
  pub sees : List ℕ

-- variables are numbered from 1 to `variables`; the matrix is a list of clauses
pub record Dqbf : Type 0 where
  pub variables : ℕ
  pub universals : List ℕ
  pub existentials : List Existential
  pub matrix : List (List Literal)

abbrev pub is_universal : Dqbf → ℕ → Bool
is_universal f v = list_any (λ x. x == v) f.universals

-- the existential with this variable
abbrev pub existential_of : Dqbf → ℕ → Option Existential
existential_of f v = find (λ y. y.variable == v) f.existentials

-- the variables that the prefix declares
abbrev pub declared : Dqbf → List ℕ
declared f = f.universals ++ map (λ y. y.variable) f.existentials

-- each variable is declared once and in range, and existentials see declared universals
pub record HasLawfulPrefix (f : Dqbf) : Type 0 where
  pub in_range : All (λ v. (1 ≤ v) × (v ≤ f.variables)) (declared f)
  pub declared_once : AllPairs (λ v w. v ≢ w) (declared f)
  pub sees_universals : All (λ y. All (Contains f.universals) y.sees) f.existentials

-- the prefix is lawful and binds every variable of the matrix
pub record IsWellFormed (f : Dqbf) : Type 0 where
  pub prefix : HasLawfulPrefix f
  pub bound : All (All (λ l. Contains (declared f) (variable_of l))) f.matrix
