-- Laws of the loop: what each call leaves of a search that is under way.
use Rattle.std.specs.Prelude.{◌≡◌, ◌⊎◌, ℕ, Bool, true, List, ◌∷◌, None}
use Rattle.std.specs.List.{Contains}
use Rattle.dq_lits.specs.Formula.{Dqbf, Existential}
use Rattle.dq_lits.specs.Skolem.{OutputFunction}
use Rattle.hint_log.specs.Entries.{Entry, Round, ProofLog, name_of}
use Rattle.hint_log.specs.Growth.{Grew}
use Rattle.hint_log.specs.Live.{before_beginning}
use Rattle.hint_log.specs.Naming.{rows_of}
use Rattle.hint_log.specs.ProductiveLog.{IsNewFailure, HasModelWith, fault_groups, fault_room}
use Rattle.hint_log.specs.ProductiveSession.{IsUndecidedSince, AreGroupedByFrames}
use Rattle.log_laws.specs.Engines.{instances}
use Rattle.log_laws.specs.Sessions.{IsAddedLive}
use Rattle.circuit_cnf.specs.declared.checkers.Checker.{Checker}
use Rattle.circuit_cnf.specs.Failing.{IsFailure}
use Rattle.circuit_cnf.specs.Turning.{HasTurned}
use Rattle.dq_session.specs.Databases.{DatabaseState, all_of, frames_of, IsDatabase}
use Rattle.dq_session.specs.Changes.{groups_of}
use Rattle.definability.specs.Copies.{IsDefinability}
use Rattle.definability.specs.Store.{IsCopyStore}
use Rattle.definability.specs.declared.definability.Definability.{Definability}
use Rattle.known_functions.specs.Searching.{IsAsked}
use Rattle.repair_loop.specs.SearchStates.{AreApart, IsDatabaseAfter, IsKept}
use Rattle.repair_loop.specs.Searching.{AreCandidates}
use Rattle.repair_loop.specs.Turning.{AreFaultsNew, IsUnderWay, IsOpen, IsRoundLogged, HasGoneOn, LogGrew}

-- whatever came of a call that adds no round: the search goes on, and is as undecided and as whole
-- as before
pub record IsLeft (f : Dqbf) (b after : DatabaseState) (c d : Checker) (p : Definability) (ready : Bool) (silent : Bool)
    (old new : ProofLog) : Type 0 where
  pub went : HasGoneOn f b after c d p ready old new
  pub undecided : silent ≡ true → IsUndecidedSince (all_of b) old.entries
      → IsUndecidedSince (all_of b) new.entries
  pub rows : rows_of new.entries ≡ rows_of old.entries
  pub room : fault_room new.entries ≡ fault_room old.entries
  pub before : before_beginning new.entries ≡ before_beginning old.entries

-- questions on definitions and rules
abbrev pub QuestionsLeaveSearches : Type 0
QuestionsLeaveSearches =
    (f : Dqbf) (b : DatabaseState) (c : Checker) (p : Definability) (ready : Bool) (old new : ProofLog)
    → Grew (IsAsked f) old new → (ready ≡ true → IsDefinability f p new.entries)
    → IsUnderWay f b c p ready old.entries
    → IsLeft f b b c c p ready true old new × (fault_groups new.entries ≡ fault_groups old.entries)

-- a check of circuits
abbrev pub TurnsLeaveSearches : Type 0
TurnsLeaveSearches =
    (f : Dqbf) (b : DatabaseState) (c d : Checker) (p : Definability) (ready : Bool) (silent : Bool) (old new : ProofLog)
    → HasTurned f c d silent old new → IsUnderWay f b c p ready old.entries
    → IsLeft f b b c d p ready silent old new

-- instances that are given, and searches over them
abbrev pub InstancesLeaveSearches : Type 0
InstancesLeaveSearches =
    (f : Dqbf) (b after : DatabaseState) (c : Checker) (p : Definability) (ready : Bool) (silent : Bool) (old new : ProofLog)
    → Grew (IsAddedLive (all_of b) instances (groups_of b) silent old.entries) old new
    → IsDatabaseAfter b after
    → IsDatabase after new.entries
    → ((n : ℕ) → Contains (groups_of after) n
    → Contains (groups_of b) n ⊎ (name_of old.entries n ≡ None))
    → IsUnderWay f b c p ready old.entries
    → IsLeft f b after c c p ready silent old new × (fault_groups new.entries ≡ fault_groups old.entries)

-- candidates that fail have a round in hand
abbrev pub FailuresAreRounds : Type 0
FailuresAreRounds =
    (f : Dqbf) (b : DatabaseState) (c : Checker) (p : Definability) (ready : Bool) (entries : List Entry)
    (output : Existential → OutputFunction) (row values : List Bool) (j : ℕ)
    → IsOpen f b c p ready entries → AreCandidates f b.table.rows output
    → IsFailure f output row values j
    → IsNewFailure f entries row values j × HasModelWith f (rows_of entries) row values
    × IsRoundLogged f b c p ready row (Round row values j ∷ entries)

-- copies and instances that stand apart are grouped by frames
abbrev pub SearchStatesAreGrouped : Type 0
SearchStatesAreGrouped =
    (b : DatabaseState) (c : Checker) (p : Definability) (entries : List Entry) → IsDatabase b entries
    → IsCopyStore (all_of b) (frames_of b) p entries → AreApart b c p
    → AreGroupedByFrames (frames_of b) entries

-- what instances leave of the log, also where some were refused
pub record IsLogLeft (all : Dqbf) (silent : Bool) (old new : ProofLog) : Type 0 where
  pub kept : IsKept all old.entries → IsKept all new.entries
  pub undecided : silent ≡ true → IsUndecidedSince all old.entries
      → IsUndecidedSince all new.entries
  pub new_faults : AreFaultsNew (before_beginning old.entries) old.entries
      → AreFaultsNew (before_beginning new.entries) new.entries
  pub grew : LogGrew old new

abbrev pub InstancesLeaveLogs : Type 0
InstancesLeaveLogs =
    (all : Dqbf) (groups : List ℕ) (silent : Bool) (old new : ProofLog)
    → Grew (IsAddedLive all instances groups silent old.entries) old new
    → IsLogLeft all silent old new
