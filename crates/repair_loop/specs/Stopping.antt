-- What a search that ends at the log's limit has in hand.
use Rattle.std.specs.Prelude.{◌≡◌, ◌⊎◌, ℕ, Bool, List}
use Rattle.dq_lits.specs.Literal.{Literal}
use Rattle.dq_lits.specs.Formula.{Dqbf}
use Rattle.hint_log.specs.Entries.{Entry, ProofLog, steps_of}
use Rattle.hint_log.specs.Naming.{rows_of}
use Rattle.hint_log.specs.ProductiveLog.{IsNewFailure, HasModelWith}
use Rattle.oracle.specs.Limits.{HasNextLemma}

-- a round that could be logged: a new row that a clause fails at, which follows a model of the
-- instances so far
pub record HasNextRound (f : Dqbf) (entries : List Entry) : Type 0 where
  pub row : List Bool
  pub values : List Bool
  pub j : ℕ
  pub refutes : IsNewFailure f entries row values j
  pub follows : HasModelWith f (rows_of entries) row values

-- a clause could be learned, or a round be logged
abbrev pub HasNextStep : Dqbf → List Entry → Type 0
HasNextStep f entries =
    ((assumptions : List Literal) × HasNextLemma entries assumptions) ⊎ HasNextRound f entries

-- no step is left, and one could be taken
pub record IsStoppedAtLimit (f : Dqbf) (log : ProofLog) : Type 0 where
  pub reached : steps_of log.entries ≡ log.limit
  pub next : HasNextStep f log.entries
