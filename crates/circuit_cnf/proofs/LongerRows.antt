-- A row of bits, and false behind them.
use Rattle.std.proofs.Common.{◌≡◌, ℕ, ◌≤◌, ◌<◌, Bool, false, List, length}
use Rattle.dq_lits.specs.Row.{bit_of}

-- the first bits are the row's, and the others false
pub record IsLengthened (row : List Bool) (n i : ℕ) (longer : List Bool) : Type 0 where
  pub long : length longer ≡ n
  pub same : (k : ℕ) → k < i → bit_of longer k ≡ bit_of row k
  pub behind : (k : ℕ) → i ≤ k → bit_of longer k ≡ false
