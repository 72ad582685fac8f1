-- What a search over the live instances of a database shows.
use Rattle.std.specs.Prelude.{ℕ, Bool, List}
use Rattle.dq_lits.specs.Expansion.{IsExpansionUnsatisfiable}
use Rattle.hint_log.specs.Conditions.{AreLogged}
use Rattle.hint_log.specs.Entries.{Entry, ProofLog}
use Rattle.hint_log.specs.Growth.{Grew}
use Rattle.oracle.specs.Calls.{IsRefutedUnder}
use Rattle.oracle.specs.Searched.{IsSearched}
use Rattle.expansion.specs.Searches.{switches, IsSearchEntry, AreFound}
use Rattle.expansion.specs.Table.{PointState, ArePoints, point_bits}
use Rattle.dq_session.specs.Databases.{DatabaseState, now_of, IsDatabase, IsFullDatabase}
use Rattle.dq_session.specs.Changes.{open_groups}
use Rattle.dq_session.specs.Giving.{IsWhole}
use Rattle.dq_session.specs.Shown.{IsRefutedLive}

abbrev pub SearchesLeaveDatabases : Type 0
SearchesLeaveDatabases =
    (b : DatabaseState) (silent : Bool) (old new : ProofLog) → Grew (IsSearchEntry silent) old new
    → (IsDatabase b old.entries → IsDatabase b new.entries)
    × (IsFullDatabase b old.entries → IsFullDatabase b new.entries)

-- values under which the instances of open frames are true are points of the formula of now
abbrev pub FoundPointsAreLive : Type 0
FoundPointsAreLive =
    (b : DatabaseState) (entries : List Entry) (points : PointState) → IsDatabase b entries → IsWhole b
    → AreLogged entries → AreFound b.table entries (switches b.table (open_groups b)) points
    → ArePoints (now_of b) b.table.rows (point_bits points)

-- an answer to the groups of open frames refutes the formula of now, by instances of live clauses
abbrev pub LiveAnswersRefute : Type 0
LiveAnswersRefute =
    (b : DatabaseState) (old new : ProofLog) (id : ℕ) → IsFullDatabase b old.entries
    → IsSearched new.entries → IsRefutedUnder old new (switches b.table (open_groups b)) id
    → IsExpansionUnsatisfiable (now_of b) b.table.rows × IsRefutedLive b new.entries id
