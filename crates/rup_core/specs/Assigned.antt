-- What a trail stands for.
use Rattle.std.specs.Prelude.{ℕ, List}
use Rattle.dq_lits.specs.Literal.{Literal}

-- the literals made true, newest first; there is room for those of the variables from 1 to
-- `variables`
pub record Assigned : Type 0 where
  pub variables : ℕ
  pub trues : List Literal
