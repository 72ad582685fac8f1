-- What can be asked of the checker.
use Rattle.std.specs.Prelude.{ℕ, List}

-- the names of the formula's and of the certificate's file
pub record Command : Type 0 where
  pub formula : List ℕ
  pub certificate : List ℕ
