-- Rows under which the universal literals of a clause are false.
use Rattle.std.specs.Prelude.{◌≡◌, ◌==◌, ℕ, Bool, true, false, List}
use Rattle.std.specs.List.{list_any}
use Rattle.dq_lits.specs.Literal.{Literal, variable_of}
use Rattle.dq_lits.specs.Formula.{Dqbf}
use Rattle.dq_lits.specs.Derivation.{holds}
use Rattle.dq_lits.specs.Expansion.{row_assignment, universal_literal_true}

-- the literals are false, and other variables have the bits of the row
pub record IsFalsified (f : Dqbf) (row : List Bool) (clause : List Literal) (low : List Bool)
    : Type 0 where
  pub none_true : (l : Literal) → holds clause l ≡ true → universal_literal_true f low l ≡ false
  pub same : (x : ℕ) → list_any (λ l. variable_of l == x) clause ≡ false
      → row_assignment f low x ≡ row_assignment f row x
