-- What leaves a table as it stands: what other engines add to the log, and a new round.
use Rattle.std.specs.Prelude.{◌≡◌, ℕ, Bool, List, [], ◌∷◌, ◌++◌}
use Rattle.dq_lits.specs.Formula.{Dqbf}
use Rattle.hint_log.specs.Entries.{Entry, Round}
use Rattle.hint_log.specs.Naming.{rows_of}
use Rattle.expansion.specs.Table.{TableState, IsTable, IsFullTable}

-- the new round's row is the one that the table lacks then
abbrev pub RoundsLeaveTables : Type 0
RoundsLeaveTables =
    (f : Dqbf) (t : TableState) (row values : List Bool) (j : ℕ) (earlier : List Entry)
    → IsFullTable f t earlier
    → IsTable f t (Round row values j ∷ earlier)
    × (rows_of (Round row values j ∷ earlier) ≡ t.rows ++ row ∷ [])
