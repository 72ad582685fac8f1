-- What leaves a database as it stands: what other engines add to the log, a new round, and that a
-- search begins.
use Rattle.std.specs.Prelude.{◌≡◌, ◌≢◌, ℕ, Bool, false, List, [], ◌∷◌, ◌++◌}
use Rattle.std.specs.List.{Contains}
use Rattle.dq_lits.specs.Formula.{Dqbf}
use Rattle.hint_log.specs.Entries.{Entry, Round, Begun, ProofLog}
use Rattle.hint_log.specs.Growth.{Grew}
use Rattle.hint_log.specs.Naming.{rows_of}
use Rattle.log_laws.specs.Engines.{Engine, instances, same_engine}
use Rattle.log_laws.specs.Sessions.{IsAddedLive}
use Rattle.dq_session.specs.Databases.{DatabaseState, IsDatabase, IsFullDatabase}
use Rattle.dq_session.specs.Changes.{groups_of}

abbrev pub EnginesLeaveDatabases : Type 0
EnginesLeaveDatabases =
    (all : Dqbf) (b : DatabaseState) (engine : Engine) (groups : List ℕ) (silent : Bool)
    (old new : ProofLog)
    → Grew (IsAddedLive all engine groups silent old.entries) old new
    → same_engine engine instances ≡ false
    → ((g h : ℕ) → Contains (groups_of b) g → Contains groups h → g ≢ h)
    → (IsDatabase b old.entries → IsDatabase b new.entries)
    × (IsFullDatabase b old.entries → IsFullDatabase b new.entries)

-- the new round's row is the one that the table lacks then
abbrev pub RoundsLeaveDatabases : Type 0
RoundsLeaveDatabases =
    (b : DatabaseState) (row values : List Bool) (j : ℕ) (earlier : List Entry)
    → IsFullDatabase b earlier
    → IsDatabase b (Round row values j ∷ earlier)
    × (rows_of (Round row values j ∷ earlier) ≡ b.table.rows ++ row ∷ [])

abbrev pub BeginningsLeaveDatabases : Type 0
BeginningsLeaveDatabases =
    (b : DatabaseState) (live : List ℕ) (earlier : List Entry)
    → (IsDatabase b earlier → IsDatabase b (Begun live ∷ earlier))
    × (IsFullDatabase b earlier → IsFullDatabase b (Begun live ∷ earlier))
