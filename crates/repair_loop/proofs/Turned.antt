-- What a turn's calls leave, one behind the other.
use Rattle.std.proofs.Common.{◌≡◌, ◌∙◌, inl, ◌∷◌, arith, ap, sym, subst, refl, ℕ, Bool, true, List, length, slice_index_or}
use Rattle.std.specs.List.{All, Contains, filter_map}
use Rattle.std.specs.Option.{option_map}
use Rattle.dq_lits.specs.Expansion.{IsExpansionUnsatisfiable}
use Rattle.dq_lits.specs.Formula.{Dqbf}
use Rattle.expansion.specs.Table.{PointState, ArePoints, point_bits}
use Rattle.dq_lits.specs.Skolem.{IsSupported}
use Rattle.aig_graph.specs.declared.nodes.Node.{Node}
use Rattle.aig_graph.specs.Graph.{AigGraph}
use Rattle.aig_graph.specs.Outputs.{OutputsAreSupported, outputs_of}
use Rattle.circuit_cnf.specs.Shown.{HoldEverywhere, IsShownSince, ShownOutputsDecide}
use Rattle.circuit_cnf.specs.declared.checkers.Checker.{Checker}
use Rattle.hint_log.specs.Entries.{Entry, ProofLog}
use Rattle.hint_log.specs.Growth.{Grew}
use Rattle.hint_log.specs.Live.{before_beginning}
use Rattle.hint_log.specs.Naming.{rows_of}
use Rattle.hint_log.specs.ProductiveLog.{fault_groups}
use Rattle.hint_log.specs.ProductiveSession.{IsUndecidedSince}
use Rattle.log_laws.specs.Engines.{instances}
use Rattle.log_laws.specs.Sessions.{IsAddedLive}
use Rattle.dq_session.specs.Databases.{DatabaseState, number_of, all_of, live_of, now_of, IsFullDatabase}
use Rattle.dq_session.specs.Changes.{groups_of, IsCaughtUp}
use Rattle.dq_session.specs.Shown.{IsRefutedLive}
use Rattle.definability.specs.declared.definability.Definability.{Definability}
use Rattle.known_functions.specs.Searching.{HasInputs}
use Rattle.repair_loop.specs.SearchStates.{IsKept, IsDatabaseAfter, IsAnsweredFalse, IsAnsweredTrue}
use Rattle.repair_loop.specs.Searching.{AreBuilt}
use Rattle.repair_loop.specs.Preservation.{IsLeft, InstancesLeaveLogs, InstancesLeaveSearches}
use Rattle.repair_loop.specs.Turning.{LogGrew, IsModel, IsUnderWay, IsOpen, IsSearch, IsRoundLogged, HasEnded, HasGoneOn, IsNewRound}
use Rattle.repair_loop.proofs.LogGrowth.{log_then, log_same}
use Rattle.repair_loop.proofs.Stages.{database_then, same_database}
use Rattle.repair_loop.proofs.UnnamedBefore.{unnamed_since}

pub went_then : (f : Dqbf) (a b e : DatabaseState) (c d g : Checker) (p : Definability) (ready : Bool) (old mid new : ProofLog) →
    HasGoneOn f a b c d p ready old mid → HasGoneOn f b e d g p ready mid new → HasGoneOn f a e c g p ready old new
went_then f a b e c d g p ready old mid new one two = search (arith, database_then, log_then)

pub nothing_went : (f : Dqbf) (b : DatabaseState) (c : Checker) (p : Definability) (ready : Bool) (log : ProofLog) →
    IsUnderWay f b c p ready log.entries → HasGoneOn f b b c c p ready log log
nothing_went f b c p ready log way = record { way = way; database = same_database b; grew = log_same log log refl }

pub caught_up_after : (b after : DatabaseState) → IsCaughtUp b after → IsDatabaseAfter b after
caught_up_after b after up = search arith

pub row_after : (b after : DatabaseState) → after ≡ record b { table = after.table } → IsDatabaseAfter b after
row_after b after same = search arith

-- nothing was decided
pub left_open : (f : Dqbf) (b after : DatabaseState) (c d : Checker) (p : Definability) (ready : Bool) (silent : Bool) (old new : ProofLog) →
    silent ≡ true → IsLeft f b after c d p ready silent old new → rows_of new.entries ≡ after.table.rows →
    IsUndecidedSince (all_of b) old.entries → IsOpen f after d p ready new.entries
left_open f b after c d p ready silent old new quiet left rows before = search arith

pub left_search : (f : Dqbf) (graph more : AigGraph) (b after : DatabaseState) (c d : Checker) (p : Definability) (ready : Bool) (silent : Bool)
    (old new : ProofLog) → silent ≡ true → IsLeft f b after c d p ready silent old new →
    fault_groups new.entries ≡ fault_groups old.entries → rows_of new.entries ≡ after.table.rows →
    more.inputs ≡ graph.inputs →
    IsSearch f graph b c p ready old.entries → IsSearch f more after d p ready new.entries
left_search f graph more b after c d p ready silent old new quiet left faults rows same s = search (arith, left_open)

pub refuted_after : (b after : DatabaseState) (es : List Entry) (id : ℕ) → IsDatabaseAfter b after → IsRefutedLive b es id →
    IsRefutedLive after es id
refuted_after b after es id same r = record {
  clause = r.clause;
  hints = r.hints;
  earlier = r.earlier;
  answered = r.answered;
  last = r.last;
  decides = r.decides;
  live = λ k j c reached. subst (λ ns. Contains ns j) (sym (ap live_of same.same)) (r.live k j c reached);
}

pub answered_false : (b after : DatabaseState) (log : ProofLog) (id : ℕ) → IsDatabaseAfter b after →
    rows_of log.entries ≡ b.table.rows → IsExpansionUnsatisfiable (now_of b) b.table.rows →
    IsRefutedLive b log.entries id → IsAnsweredFalse after log id
answered_false b after log id same rows none shown = record {
  unsatisfiable = subst (λ f. IsExpansionUnsatisfiable f (rows_of log.entries)) (sym (ap now_of same.same))
      (subst (IsExpansionUnsatisfiable (now_of b)) (sym rows) none);
  shown = refuted_after b after log.entries id same shown;
}

-- a round's row is the same
pub round_after : (f : Dqbf) (b : DatabaseState) (c : Checker) (p : Definability) (ready : Bool) (row here : List Bool) (old mid new : ProofLog) →
    row ≡ here → LogGrew old mid → IsNewRound f b c p ready row mid new → IsNewRound f b c p ready here old new
round_after f b c p ready row here old mid new same grew round = search arith

-- with its row a database is whole again
pub row_search : InstancesLeaveSearches → (f : Dqbf) (graph : AigGraph) (b after : DatabaseState) (c : Checker) (p : Definability) (ready : Bool)
    (row : List Bool) (old new : ProofLog)
    → IsRoundLogged f b c p ready row old.entries
    → Grew (IsAddedLive (all_of b) instances (groups_of b) true old.entries) old new
    → after ≡ record b { table = after.table } → after.table.group ≡ b.table.group → IsFullDatabase after new.entries
    → HasInputs f graph → IsLeft f b after c c p ready true old new × IsSearch f graph after c p ready new.entries
row_search law f graph b after c p ready row old new a grew same group full inputs =
    let groups : groups_of after ≡ groups_of b =
    ap groups_of same ∙ ap (λ g. g ∷ filter_map (option_map number_of) b.groups) group in
    let left = law f b after c p ready true old new grew (row_after b after same) full.database
    (λ n has. inl (subst (λ gs. Contains gs n) groups has)) a.way in
    let few = a.room in
    let many = ap length left.1 in
    let room = left.0.room in (
      left.0,
      record {
        here = left_open f b after c c p ready true old new refl left.0 full.rows a.undecided;
        inputs = inputs;
        room = omega (arith, few, many, room);
      },
    )

pub after_undecided : (b after : DatabaseState) (es : List Entry) → IsDatabaseAfter b after → IsUndecidedSince (all_of b) es →
    IsUndecidedSince (all_of after) es
after_undecided b after es same u = subst (λ g. IsUndecidedSince g es) (sym (ap all_of same.same)) u

-- the database's model
pub model_of : (f : Dqbf) (b after : DatabaseState) (points : PointState) (es : List Entry) (c : Checker) (p : Definability) (ready : Bool) →
    IsUnderWay f b c p ready es → IsCaughtUp b after → points.variables ≡ b.table.existentials →
    length points.rows ≡ length b.table.rows → ArePoints (now_of b) b.table.rows (point_bits points) →
    IsModel f after.table points
model_of f b after points es c p ready way up variables rows model = search arith

pub outputs_supported : OutputsAreSupported → (f : Dqbf) (graph : AigGraph) (nodes : List Node) →
    All (λ y. IsSupported (outputs_of f graph nodes y)) f.existentials
outputs_supported law f graph nodes k d below = search (arith, slice_index_or)

-- outputs that hold
pub answered_true : OutputsAreSupported → ShownOutputsDecide → (f : Dqbf) (graph : AigGraph) (rows : List (List Bool))
    (nodes : List Node) (old log : ProofLog) (id : ℕ) → AreBuilt f graph rows nodes
    → HoldEverywhere f (outputs_of f graph nodes) → before_beginning log.entries ≡ before_beginning old.entries
    → IsShownSince f graph nodes old.entries log.entries id → IsAnsweredTrue f graph nodes log id
answered_true supported decide f graph rows nodes old log id built holds same since =
    let shown = since.shown in
    let right = decide f graph nodes shown.earlier shown.clause shown.hints shown.shows built.reads in
    record {
      found = search (arith, outputs_supported);
      decides = record { rests = shown.shows.rests; reads = right.reads };
      current = search (arith, unnamed_since);
    }

-- a search that went on, so far
pub ended_by : (f : Dqbf) (b after : DatabaseState) (c d : Checker) (p : Definability) (ready : Bool) (old new : ProofLog) →
    HasGoneOn f b after c d p ready old new → HasEnded b after old new
ended_by f b after c d p ready old new went = search arith

-- what a search came to that had gone on before
pub ended_then : (f : Dqbf) (b mid after : DatabaseState) (c d : Checker) (p : Definability) (ready : Bool) (old between new : ProofLog) →
    HasGoneOn f b mid c d p ready old between → HasEnded mid after between new → HasEnded b after old new
ended_then f b mid after c d p ready old between new went ended = search (arith, database_then, log_then)

-- two parts of a search, one behind the other
pub ended_both : (b mid after : DatabaseState) (old between new : ProofLog) →
    HasEnded b mid old between → HasEnded mid after between new → HasEnded b after old new
ended_both b mid after old between new one two = search (arith, database_then, log_then)

-- a row was refused
pub row_refused : InstancesLeaveLogs → (f : Dqbf) (b after : DatabaseState) (c : Checker) (p : Definability) (ready : Bool) (row : List Bool)
    (first old new : ProofLog) (start : DatabaseState) → HasEnded start b first old → IsRoundLogged f b c p ready row old.entries
    → Grew (IsAddedLive (all_of b) instances (groups_of b) true old.entries) old new
    → after ≡ record b { table = after.table } → HasEnded start after first new
row_refused law f b after c p ready row first old new start ended a grew same =
    let left = law (all_of b) (groups_of b) true old new grew in
    record {
      kept = subst (λ g. IsKept g new.entries) (ap all_of ended.database.same) (left.kept a.way.kept);
      new_faults = left.new_faults a.way.new_faults;
      database = database_then start b after ended.database (row_after b after same);
      grew = log_then first old new ended.grew left.grew;
    }

pub row_undecided : InstancesLeaveLogs → (f : Dqbf) (b after : DatabaseState) (c : Checker) (p : Definability) (ready : Bool) (row : List Bool)
    (old new : ProofLog) → IsRoundLogged f b c p ready row old.entries
    → Grew (IsAddedLive (all_of b) instances (groups_of b) true old.entries) old new
    → after ≡ record b { table = after.table } → IsUndecidedSince (all_of after) new.entries
row_undecided law f b after c p ready row old new a grew same =
    let left = law (all_of b) (groups_of b) true old new grew in
    subst (λ g. IsUndecidedSince g new.entries) (sym (ap all_of (row_after b after same).same))
    (left.undecided refl a.undecided)
