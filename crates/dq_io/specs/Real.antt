-- What is told of real files: whether one is open, and counts, but no content.
use Rattle.std.specs.Prelude.{ℕ, Bool}

pub record RealState : Type 0 where
  pub is_open : Bool
  pub given : ℕ
  pub faults : ℕ
  pub picks : ℕ
