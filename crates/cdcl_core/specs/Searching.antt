-- What holds between the turns of a search.
use Rattle.std.specs.Prelude.{◌≡◌, ℕ, ◌+◌, ◌-◌, ◌*◌, ◌≤◌, ◌<◌, List, length}
use Rattle.dq_lits.specs.Literal.{Literal}
use Rattle.hint_log.specs.Entries.{ProofLog, steps_of}
use Rattle.oracle.specs.declared.oracles.Answer.{Answer}
use Rattle.learning_trail.specs.Growing.{HasLearned}
use Rattle.learning_trail.specs.Searching.{Searched, IsAnswered as IsAnsweredBy}
use Rattle.oracle.specs.Fit.{live_in}
use Rattle.learning_trail.specs.Resting.{HeldFit, AreAwake}
use Rattle.learning_trail.specs.Steps.{literals_of}
use Rattle.learning_trail.specs.Sound.{IsSound, IsGuided}
use Rattle.cdcl_core.specs.declared.searchers.Searcher.{Searcher}
use Rattle.cdcl_core.specs.Watching.{IsGuarded, AreLevelsGuarded, IsTopGuarded}

-- what of it an analysis sees
abbrev pub searched : Searcher → Searched
searched s =
    record {
      clauses = s.clauses.clauses;
      resting = s.resting.flags.items;
      variables = s.variables;
      trail = s.trail;
      notes = s.notes;
    }

-- the searcher goes with the log, and its trail is one
pub record IsSearching (assumptions : List Literal) (s : Searcher) (log : ProofLog) : Type 0 where
  pub fit : HeldFit s.clauses.clauses s.resting.flags.items s.variables log.entries
  pub awake : AreAwake s.resting.flags.items assumptions
  pub sound : IsSound (live_in s.clauses.clauses) s.trail.steps
  pub guided : IsGuided log.entries assumptions s.trail.steps
  pub room : s.variables ≤ s.trail.room
  pub marks : s.trail.room < length s.notes.marks
  pub levels : AreLevelsGuarded s.clauses.clauses s.clauses.first s.clauses.second s.trail.steps

-- all literals of the trail but the newest were processed
abbrev pub IsPropagatedButNewest : Searcher → Type 0
IsPropagatedButNewest s = IsTopGuarded s.clauses.clauses s.clauses.first s.clauses.second s.trail.steps

-- all literals of the trail were processed
abbrev pub IsAllGuarded : Searcher → Type 0
IsAllGuarded s =
    IsGuarded s.clauses.clauses s.clauses.first s.clauses.second (literals_of s.trail.steps)
    (literals_of s.trail.steps)

-- how far a search is from its end
abbrev pub left_of : Searcher → ProofLog → ℕ
left_of s log =
    (log.limit - steps_of log.entries) * (s.trail.room + 1) + (s.trail.room - length s.trail.steps)

-- the variables, and the places for them
pub record KeepsPlaces (s t : Searcher) : Type 0 where
  pub variables : t.variables ≡ s.variables
  pub room : t.trail.room ≡ s.trail.room
  pub marks : length t.notes.marks ≡ length s.notes.marks

-- what a turn that doesn't end the search comes to
pub record HasTurned (assumptions : List Literal) (s t : Searcher)
    (old new : ProofLog) : Type 0 where
  pub searching : IsSearching assumptions t new
  pub ready : IsPropagatedButNewest t
  pub learned : HasLearned old new
  pub room : t.trail.room ≡ s.trail.room

-- a turn that doesn't end the search, which is closer to its end
pub record IsTurn (assumptions : List Literal) (s t : Searcher) (old new : ProofLog) : Type 0 where
  pub searching : IsSearching assumptions t new
  pub ready : IsPropagatedButNewest t
  pub learned : HasLearned old new
  pub few : length t.trail.steps ≤ t.trail.room
  pub closer : left_of t new < left_of s old

abbrev pub IsAnswered : List Literal → Searcher → ProofLog → ProofLog → Answer → Type 0
IsAnswered assumptions s old new found = IsAnsweredBy assumptions (searched s) old new found

-- how far a search has come
pub record IsRunning (assumptions : List Literal) (s t : Searcher)
    (old new : ProofLog) : Type 0 where
  pub searching : IsSearching assumptions t new
  pub ready : IsPropagatedButNewest t
  pub few : length t.trail.steps ≤ t.trail.room
  pub learned : HasLearned old new
  pub places : KeepsPlaces s t
