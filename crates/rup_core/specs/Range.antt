-- Which variables stand in a line and in what it hints.
use Rattle.std.specs.Prelude.{ℕ, ◌≤◌, List, All, IfSome}
use Rattle.dq_lits.specs.Literal.{Literal, variable_of}
use Rattle.dq_lits.specs.Derivation.{LiveClauses}

-- each literal stands on a variable up to n
abbrev pub StandsWithin : ℕ → List Literal → Type 0
StandsWithin n literals = All (λ l. variable_of l ≤ n) literals

-- so does each literal of the line, and of each clause that it hints
pub record LineStandsWithin (n : ℕ) (live : LiveClauses) (literals : List Literal)
    (hints : List ℕ) : Type 0 where
  pub line : StandsWithin n literals
  pub hinted : All (λ id. IfSome (live id) (StandsWithin n)) hints
