-- A database whose clauses are being given their instances.
use Rattle.std.specs.Prelude.{◌≡◌, ◌⊎◌, ℕ, ◌≤◌, ◌<◌, Bool, length, None}
use Rattle.std.specs.List.{Contains}
use Rattle.hint_log.specs.Entries.{ProofLog, name_of}
use Rattle.hint_log.specs.Growth.{Grew}
use Rattle.hint_log.specs.ProductiveLog.{fault_groups, fault_room}
use Rattle.log_laws.specs.Engines.{instances}
use Rattle.oracle.specs.declared.groups.Group.{Group}
use Rattle.log_laws.specs.Sessions.{IsAddedLive}
use Rattle.dq_session.specs.Databases.{DatabaseState, all_of, live_of, number_at, given_at, HasGroup, number_of, IsFullDatabase}
use Rattle.dq_session.specs.Changes.{groups_of, IsCaughtUp}

-- the database stands, what was added to the log is lawful, and there is as much room for faults as
-- before
pub record IsGiving (old : DatabaseState) (old_log : ProofLog) (new : DatabaseState)
    (new_log : ProofLog) : Type 0 where
  pub caught_up : IsCaughtUp old new
  pub grew : (silent : Bool)
      → Grew (IsAddedLive (all_of old) instances (groups_of old) silent old_log.entries) old_log
      new_log
  pub new_groups : (frame : ℕ) (g : Group) → HasGroup new frame g
      → HasGroup old frame g ⊎ (name_of old_log.entries (number_of g) ≡ None)
  pub names : (v : ℕ) → name_of new_log.entries v ≡ None → name_of old_log.entries v ≡ None
  pub database : IsFullDatabase new new_log.entries
  pub few : length (fault_groups new_log.entries) ≤ fault_room new_log.entries

-- the live clauses that were added have their instances under all rows
abbrev pub IsWhole : DatabaseState → Type 0
IsWhole b =
    (place : ℕ) → place < length b.added → Contains (live_of b) (number_at b place)
    → given_at b place ≡ length b.table.rows
