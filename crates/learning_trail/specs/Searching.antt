-- What a search works on, and what it comes to.
use Rattle.std.specs.Prelude.{◌≡◌, ℕ, ◌≤◌, ◌<◌, true, false, Bool, List, length, IsSome, All}
use Rattle.std.specs.List.{list_any}
use Rattle.dq_lits.specs.Literal.{Literal, positive, variable_of, is_negative, opposite}
use Rattle.dq_lits.specs.Derivation.{holds}
use Rattle.hint_log.specs.Entries.{ProofLog, name_of}
use Rattle.hint_log.specs.Naming.{is_selector}
use Rattle.oracle.specs.Fit.{live_in}
use Rattle.oracle.specs.Calls.{IsRefutedUnder}
use Rattle.oracle.specs.declared.oracles.Answer.{Answer}
use Rattle.oracle.specs.declared.oracles.Answer.TheVariants.{Sat, Unsat}
use Rattle.learning_trail.specs.Growing.{HasLearned}
use Rattle.learning_trail.specs.Steps.{Trailed, literals_of}
use Rattle.learning_trail.specs.Noting.{Noted}
use Rattle.learning_trail.specs.Resting.{rests, HeldFit, AreAwake}
use Rattle.learning_trail.specs.Sound.{IsSound, IsGuided, AreTrue}

-- the clauses that are held, which groups rest, how many variables there are, and the trail and its
-- notes
pub record Searched : Type 0 where
  pub clauses : List (List Literal)
  pub resting : List Bool
  pub variables : ℕ
  pub trail : Trailed
  pub notes : Noted

-- it goes with the log, and its trail is one
pub record IsSearching (assumptions : List Literal) (s : Searched) (log : ProofLog) : Type 0 where
  pub fit : HeldFit s.clauses s.resting s.variables log.entries
  pub awake : AreAwake s.resting assumptions
  pub sound : IsSound (live_in s.clauses) s.trail.steps
  pub guided : IsGuided log.entries assumptions s.trail.steps
  pub room : s.variables ≤ s.trail.room
  pub marks : s.trail.room < length s.notes.marks

-- assumptions stand on variables that have names, and not beside their negations
pub record AreAssumptions (log : ProofLog) (assumptions : List Literal) : Type 0 where
  pub named : (l : Literal) → holds assumptions l ≡ true
      → IsSome (name_of log.entries (variable_of l))
  pub apart : (l : Literal) → holds assumptions l ≡ true → holds assumptions (opposite l) ≡ true → ⊥
  pub switched : (l : Literal) → holds assumptions l ≡ true
      → is_selector log.entries (variable_of l) ≡ true → is_negative l ≡ false

-- the trail makes every assumption and every clause true, and no selector of a group that rests
pub record IsSatisfied (assumptions : List Literal) (s : Searched) : Type 0 where
  pub sound : IsSound (live_in s.clauses) s.trail.steps
  pub assumed : AreTrue assumptions (literals_of s.trail.steps)
  pub clauses : All (λ c. list_any (holds (literals_of s.trail.steps)) c ≡ true) s.clauses
  pub off : (v : ℕ) → rests s.resting v ≡ true
      → holds (literals_of s.trail.steps) (positive v) ≡ false

abbrev pub IsAnswered : List Literal → Searched → ProofLog → ProofLog → Answer → Type 0
IsAnswered assumptions s old new Sat = HasLearned old new × IsSatisfied assumptions s
IsAnswered assumptions s old new (Unsat id) = IsRefutedUnder old new assumptions id
