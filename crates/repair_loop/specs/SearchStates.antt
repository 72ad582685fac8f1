-- A search state before, between and behind the searches of a session.
use Rattle.std.specs.Prelude.{◌≡◌, ◌+◌, ◌≤◌, ℕ, true, List, [], ◌∷◌, ◌++◌, length, Some, IsSome}
use Rattle.std.specs.List.{Contains}
use Rattle.dq_lits.specs.Formula.{Dqbf}
use Rattle.dq_lits.specs.Literal.{variable_of}
use Rattle.dq_lits.specs.Expansion.{IsExpansionUnsatisfiable}
use Rattle.hint_log.specs.Deciding.{DecidesTrue}
use Rattle.hint_log.specs.Entries.{Entry, Given, Round, Begun, ProofLog, rounds_of, beginnings_of}
use Rattle.hint_log.specs.Growth.{Each, Grew}
use Rattle.hint_log.specs.Live.{last_live, live_numbers}
use Rattle.hint_log.specs.Naming.{rows_of}
use Rattle.hint_log.specs.ProductiveLog.{IsNotRepeated, fault_groups}
use Rattle.hint_log.specs.ProductiveSession.{MatchesLiveOrigin, RefutesNewLiveRow, FollowsLiveModel, IsProductiveSession, IsSinceBeginning}
use Rattle.hint_log.specs.declared.origins.Origin.TheVariants.{Fault}
use Rattle.log_laws.specs.Engines.{instances}
use Rattle.log_laws.specs.Sessions.{IsAddedLive}
use Rattle.aig_graph.specs.declared.nodes.Node.{Node}
use Rattle.aig_graph.specs.Graph.{AigGraph}
use Rattle.oracle.specs.declared.groups.Group.{Group}
use Rattle.circuit_cnf.specs.declared.checkers.Checker.{Checker}
use Rattle.circuit_cnf.specs.Checking.{IsChecker, gate_groups}
use Rattle.dq_session.specs.Databases.{DatabaseState, all_of, frames_of, now_of, IsDatabase, IsFullDatabase}
use Rattle.dq_session.specs.Changes.{begun, groups_of}
use Rattle.dq_session.specs.Shown.{IsRefutedLive}
use Rattle.definability.specs.Store.{IsCopyStore, copy_groups}
use Rattle.definability.specs.declared.definability.Definability.{Definability}
use Rattle.known_functions.specs.Searching.{HasInputs}
use Rattle.repair_loop.specs.declared.search_states.SearchState.{SearchState}
use Rattle.repair_loop.specs.Searching.{IsShownTrue}

-- the points of a session's log that the engines and the loop keep; the solver keeps the others,
-- and how groups go by frames the database and the copies tell
pub record IsKept (all : Dqbf) (entries : List Entry) : Type 0 where
  pub origins : Each (MatchesLiveOrigin all) entries
  pub new_rows : Each (RefutesNewLiveRow all) entries
  pub models : Each (FollowsLiveModel all) entries
  pub givens : Each IsNotRepeated entries

-- the groups of the instances, of the gates and of the copies differ
pub record AreApart (b : DatabaseState) (c : Checker) (p : Definability) : Type 0 where
  pub gates : (g : Group) → Contains (gate_groups c) g → Contains (groups_of b) (variable_of g.selector) → ⊥
  pub copies : (g : ℕ) → Contains (copy_groups p) g → Contains (groups_of b) g → ⊥
  pub copies_gates : (g : Group) → Contains (gate_groups c) g → Contains (copy_groups p) (variable_of g.selector) → ⊥

-- a file's database, in a log that has nothing else
pub record IsFirstDatabase (f : Dqbf) (b : DatabaseState) (entries : List Entry) : Type 0 where
  pub begun_is : b ≡ begun f b.table
  pub no_rows : b.table.rows ≡ []
  pub database : IsDatabase b entries
  pub before : ProofLog
  pub after : ProofLog
  pub empty : before.entries ≡ []
  pub entries_are : after.entries ≡ entries
  pub alone : Grew (IsAddedLive f instances [] true before.entries) before after

-- a search state of the database's session: the checker of its circuits, the copies of all clauses
-- so far, and the numbers that the last beginning names
pub record IsSearchState (b : DatabaseState) (d : SearchState) (entries : List Entry) : Type 0 where
  pub checked : IsChecker b.file d.checker entries
  pub stored : IsCopyStore (all_of b) (frames_of b) d.definability entries
  pub apart : AreApart b d.checker d.definability
  pub named : d.begun.items ≡ last_live entries

-- faults and rounds belong to a search that began before
abbrev pub IsOfSearch : List Entry → Entry → Type 0
IsOfSearch earlier (Given (Fault j i leaf) clause) = IsSome (live_numbers earlier)
IsOfSearch earlier (Round row values j) = IsSome (live_numbers earlier)
IsOfSearch earlier _ = Unit {0}

-- a search may begin
pub record CanBeginSearch (b : DatabaseState) (d : SearchState) (graph : AigGraph) (entries : List Entry) : Type 0 where
  pub database : IsFullDatabase b entries
  pub search_state : IsSearchState b d entries
  pub session : IsProductiveSession (all_of b) (frames_of b) entries
  pub searched : Each IsOfSearch entries
  pub faults : length (fault_groups entries) ≤ rounds_of entries + beginnings_of entries
  pub inputs : HasInputs b.file graph

-- one search began over these clauses, and what follows belongs to it
pub record HasBegun (live : List ℕ) (old new : List Entry) : Type 0 where
  pub more : List Entry
  pub grown : new ≡ more ++ Begun live ∷ old
  pub none : beginnings_of more ≡ 0
  pub named : live_numbers new ≡ Some live

-- behind a search the database has more rows, and more of its clauses' instances, and as many
-- frames
pub record IsDatabaseAfter (old new : DatabaseState) : Type 0 where
  pub same : new ≡ record old { table = new.table; given = new.given; groups = new.groups }
  pub many_groups : length new.groups ≡ length old.groups

-- outputs that are Skolem functions, and the last entry, an answer of this search that decides so
pub record IsAnsweredTrue (f : Dqbf) (graph : AigGraph) (nodes : List Node) (log : ProofLog)
    (id : ℕ) : Type 0 where
  pub found : IsShownTrue f graph nodes log id
  pub decides : DecidesTrue f found.shown.earlier found.shown.clause found.shown.hints
  pub current : IsSinceBeginning found.shown.earlier decides.rests.group

-- the live clauses' instances under all rows have no model, and the last entry is an answer that
-- rests on such instances alone
pub record IsAnsweredFalse (b : DatabaseState) (log : ProofLog) (id : ℕ) : Type 0 where
  pub unsatisfiable : IsExpansionUnsatisfiable (now_of b) (rows_of log.entries)
  pub shown : IsRefutedLive b log.entries id
