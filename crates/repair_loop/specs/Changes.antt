-- Frames and clauses may come and go between searches.
use Rattle.std.specs.Prelude.{◌≤◌, List, length}
use Rattle.std.specs.List.{All, Contains}
use Rattle.dq_lits.specs.Literal.{Literal, variable_of}
use Rattle.dq_lits.specs.Formula.{declared}
use Rattle.hint_log.specs.Entries.{Entry}
use Rattle.aig_graph.specs.Graph.{AigGraph}
use Rattle.dq_session.specs.Databases.{DatabaseState}
use Rattle.dq_session.specs.Changes.{with_frame, with_clause, without_frame}
use Rattle.repair_loop.specs.declared.search_states.SearchState.{SearchState}
use Rattle.repair_loop.specs.SearchStates.{CanBeginSearch}

abbrev pub FramesOpen : Type 0
FramesOpen =
    (b : DatabaseState) (d : SearchState) (graph : AigGraph) (entries : List Entry)
    → CanBeginSearch b d graph entries → CanBeginSearch (with_frame b) d graph entries

abbrev pub ClausesCome : Type 0
ClausesCome =
    (b : DatabaseState) (d : SearchState) (graph : AigGraph) (entries : List Entry) (clause : List Literal)
    → 1 ≤ length b.open_frames → All (λ l. Contains (declared b.file) (variable_of l)) clause
    → CanBeginSearch b d graph entries → CanBeginSearch (with_clause b clause) d graph entries

abbrev pub FramesClose : Type 0
FramesClose =
    (b : DatabaseState) (d : SearchState) (graph : AigGraph) (entries : List Entry)
    → 1 ≤ length b.open_frames
    → CanBeginSearch b d graph entries → CanBeginSearch (without_frame b) d graph entries
