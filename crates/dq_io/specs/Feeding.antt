-- What was fed of a file that is read in pieces.
use Rattle.std.specs.Prelude.{◌≡◌, ℕ, List, ◌++◌, length, Result, OnOk}
use Rattle.dq_io.specs.Files.{Holding, Holds}

-- These bytes were fed behind what was fed before. Where the file is told, they are a prefix of it,
-- and all of it where the call succeeded; then they are as many as were given.
pub record WasFed {E : Type 0} (before now : List ℕ → Type 0) (holding : Holding)
    (given : ℕ) (result : Result (Unit {0}) E) : Type 0 where
  pub fed : List ℕ
  pub stands : (text : List ℕ) → before text → now (text ++ fed)
  pub prefix : (bytes : List ℕ) → holding ≡ Holds bytes → (rest : List ℕ) × (bytes ≡ fed ++ rest)
  pub whole : OnOk result ((bytes : List ℕ) → holding ≡ Holds bytes → fed ≡ bytes)
  pub counted : OnOk result (length fed ≡ given)
