-- What holds between the turns of a search.
use Rattle.std.specs.Prelude.{◌≡◌, ℕ, ◌+◌, ◌-◌, ◌*◌, ◌≤◌, ◌<◌, List, [], length}
use Rattle.dq_lits.specs.Literal.{Literal}
use Rattle.hint_log.specs.Entries.{ProofLog, steps_of}
use Rattle.oracle.specs.declared.oracles.Answer.{Answer}
use Rattle.learning_trail.specs.Growing.{HasLearned}
use Rattle.learning_trail.specs.Searching.{Searched, IsSearching as IsAtSearch, IsAnswered as IsAnsweredBy}
use Rattle.cdcl_scan.specs.declared.searchers.Searcher.{Searcher}

-- what of it an analysis sees: no group rests
abbrev pub searched : Searcher → Searched
searched s =
    record {
      clauses = s.clauses.clauses;
      resting = [];
      variables = s.variables;
      trail = s.trail;
      notes = s.notes;
    }

-- the searcher goes with the log, and its trail is one
abbrev pub IsSearching : List Literal → Searcher → ProofLog → Type 0
IsSearching assumptions s log = IsAtSearch assumptions (searched s) log

-- how far a search is from its end
abbrev pub left_of : Searcher → ProofLog → ℕ
left_of s log =
    (log.limit - steps_of log.entries) * (s.trail.room + 1) + (s.trail.room - length s.trail.steps)

-- the variables, and the places for them
pub record KeepsPlaces (s t : Searcher) : Type 0 where
  pub variables : t.variables ≡ s.variables
  pub room : t.trail.room ≡ s.trail.room
  pub marks : length t.notes.marks ≡ length s.notes.marks

-- what a turn that doesn't end the search comes to
pub record HasTurned (assumptions : List Literal) (s t : Searcher)
    (old new : ProofLog) : Type 0 where
  pub searching : IsSearching assumptions t new
  pub learned : HasLearned old new
  pub room : t.trail.room ≡ s.trail.room

-- a turn that doesn't end the search, which is closer to its end
pub record IsTurn (assumptions : List Literal) (s t : Searcher) (old new : ProofLog) : Type 0 where
  pub searching : IsSearching assumptions t new
  pub learned : HasLearned old new
  pub few : length t.trail.steps ≤ t.trail.room
  pub closer : left_of t new < left_of s old

abbrev pub IsAnswered : List Literal → Searcher → ProofLog → ProofLog → Answer → Type 0
IsAnswered assumptions s old new found = IsAnsweredBy assumptions (searched s) old new found

-- how far a search has come
pub record IsRunning (assumptions : List Literal) (s t : Searcher)
    (old new : ProofLog) : Type 0 where
  pub searching : IsSearching assumptions t new
  pub few : length t.trail.steps ≤ t.trail.room
  pub learned : HasLearned old new
  pub places : KeepsPlaces s t
