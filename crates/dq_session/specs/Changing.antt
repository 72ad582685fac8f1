-- A database stands where frames are opened and closed, and clauses added.
use Rattle.std.specs.Prelude.{ℕ, ◌≤◌, List, length, Some, slice_set}
use Rattle.std.specs.List.{All, Contains}
use Rattle.dq_lits.specs.Literal.{Literal, variable_of}
use Rattle.dq_lits.specs.Formula.{declared}
use Rattle.hint_log.specs.Entries.{Entry}
use Rattle.oracle.specs.declared.groups.Group.{Group}
use Rattle.dq_session.specs.Databases.{DatabaseState, IsDatabase}
use Rattle.dq_session.specs.Changes.{with_frame, with_clause, without_frame}

abbrev pub FramesOpen : Type 0
FramesOpen = (b : DatabaseState) (entries : List Entry) → IsDatabase b entries → IsDatabase (with_frame b) entries

abbrev pub ClausesCome : Type 0
ClausesCome =
    (b : DatabaseState) (clause : List Literal) (entries : List Entry) → 1 ≤ length b.open_frames
    → All (λ l. Contains (declared b.file) (variable_of l)) clause
    → IsDatabase b entries → IsDatabase (with_clause b clause) entries

abbrev pub FramesClose : Type 0
FramesClose =
    (b : DatabaseState) (entries : List Entry) → 1 ≤ length b.open_frames → IsDatabase b entries
    → IsDatabase (without_frame b) entries

-- the frame gets this group
abbrev pub with_group : DatabaseState → ℕ → Group → DatabaseState
with_group b frame g = record b { groups = slice_set b.groups frame (Some g) }
