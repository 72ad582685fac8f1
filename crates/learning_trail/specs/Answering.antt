-- What an answer is sought from, and what it leaves.
use Rattle.std.specs.Prelude.{ℕ, Bool, ◌≤◌, ◌<◌, List, length}
use Rattle.dq_lits.specs.Literal.{Literal}
use Rattle.hint_log.specs.Entries.{ProofLog}
use Rattle.oracle.specs.Fit.{live_in}
use Rattle.learning_trail.specs.Noting.{Noted}
use Rattle.learning_trail.specs.Resting.{HeldFit, AreAwake}
use Rattle.learning_trail.specs.Searching.{AreAssumptions}
use Rattle.learning_trail.specs.Sound.{IsSound, IsGuided}
use Rattle.learning_trail.specs.Steps.{Trailed}

-- the clauses go with the log, whatever its variables are and whichever groups rest, and the trail is
-- one
pub record IsAnswering (assumptions : List Literal) (clauses : List (List Literal)) (trail : Trailed)
    (notes : Noted) (log : ProofLog) : Type 0 where
  pub variables : ℕ
  pub resting : List Bool
  pub fit : HeldFit clauses resting variables log.entries
  pub awake : AreAwake resting assumptions
  pub sound : IsSound (live_in clauses) trail.steps
  pub guided : IsGuided log.entries assumptions trail.steps
  pub room : variables ≤ trail.room
  pub marks : trail.room < length notes.marks
  pub named : AreAssumptions log assumptions

-- a solver that goes with the one log goes with the other, where the assumptions' groups don't rest
abbrev pub StaysFit : List Literal → List (List Literal) → List (List Literal) → ProofLog → ProofLog
    → Type 0
StaysFit assumptions held held_new old new =
    (resting : List Bool) (variables : ℕ) → AreAwake resting assumptions
    → HeldFit held resting variables old.entries → HeldFit held_new resting variables new.entries
