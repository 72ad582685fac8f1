-- A row that is written bit by bit.
use Rattle.std.proofs.Common.{◌≡◌, ℕ, ◌<◌, ◌≤◌, Bool, false, List, length}
use Rattle.dq_lits.specs.Row.{bit_of}

-- how far a row was written
pub record WrittenSoFar (row : List Bool) (inputs : List Bool) (size at : ℕ) : Type 0 where
  pub long : length inputs ≡ size
  pub before : (i : ℕ) → i < at → bit_of inputs i ≡ bit_of row i
  pub behind : (i : ℕ) → at ≤ i → bit_of inputs i ≡ false
