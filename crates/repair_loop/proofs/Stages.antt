-- What each call leaves of a search that is under way.
use Rattle.std.proofs.Common.{◌≡◌, ◌≢◌, inl, inr, ℕ, Bool, true, List, [], ◌∷◌, length, Some, refl, sym, ◌∙◌, ap, subst, arith}
use Rattle.std.specs.List.{Contains}
use Rattle.list_laws.proofs.Members.{only_one, contains_first}
use Rattle.dq_lits.specs.Formula.{Dqbf}
use Rattle.dq_lits.specs.Literal.{Literal, negative, variable_of}
use Rattle.hint_log.specs.Entries.{Entry, Given, ProofLog}
use Rattle.hint_log.specs.Growth.{Grew}
use Rattle.hint_log.specs.Live.{formula_by, live_formula}
use Rattle.hint_log.specs.Naming.{rows_of}
use Rattle.hint_log.specs.ProductiveLog.{IsNewFailure, HasModelWith}
use Rattle.hint_log.specs.ProductiveSession.{frame_of}
use Rattle.hint_log.specs.declared.origins.Origin.TheVariants.{Instance}
use Rattle.log_laws.specs.Engines.{Engine, circuits, instances, copies, IsAddedBy}
use Rattle.log_laws.specs.Sessions.{IsAddedLive, EnginesLeaveSessions, CircuitsAddLive}
use Rattle.circuit_cnf.specs.declared.checkers.Checker.{Checker}
use Rattle.circuit_cnf.specs.Checking.{IsChecker, group_of, CheckersStay, CheckersStayWithRounds}
use Rattle.circuit_cnf.specs.Failing.{FailuresRefuteRows}
use Rattle.dq_session.specs.Databases.{DatabaseState, IsInFrame, all_of, frames_of, live_of, now_of, IsDatabase, IsFullDatabase}
use Rattle.dq_session.specs.Changes.{groups_of}
use Rattle.dq_session.specs.Grouped.{InstancesAreGrouped}
use Rattle.dq_session.specs.Preservation.{EnginesLeaveDatabases, RoundsLeaveDatabases}
use Rattle.dq_session.proofs.GroupedFrames.{frame_group}
use Rattle.dq_session.proofs.PreservedDatabases.{has_number}
use Rattle.definability.specs.Leaving.{EnginesLeaveStores, RoundsLeaveStores, SessionsLeaveCopies, CopiesAreGrouped, CopiesAreStored, ActiveGroupsAreStored}
use Rattle.definability.specs.Preservation.{RoundsLeaveCopies}
use Rattle.definability.specs.Store.{IsCopyStore, copy_groups, store_of}
use Rattle.definability.specs.declared.definability.Definability.{Definability}
use Rattle.repair_loop.specs.SearchStates.{IsKept, IsDatabaseAfter}
use Rattle.repair_loop.specs.Preservation.{QuestionsLeaveSearches, TurnsLeaveSearches, InstancesLeaveSearches, FailuresAreRounds, SearchStatesAreGrouped, InstancesLeaveLogs}
use Rattle.repair_loop.specs.Turning.{IsUnderWay}
use Rattle.repair_loop.proofs.Extends.{extends}
use Rattle.repair_loop.proofs.LiveGrowth.{asked_live, same_faults, same_room, checker_left, same_prefix}
use Rattle.repair_loop.proofs.LogGrowth.{log_grew}
use Rattle.repair_loop.proofs.NewFaults.{others_new, turns_new}
use Rattle.repair_loop.proofs.Rows.{no_old_row}
use Rattle.repair_loop.proofs.StoredGroups.{apart_still, stored_named}
use Rattle.log_laws.proofs.Kept.{in_one_group}
use Rattle.repair_loop.proofs.LiveDatabases.{database_named}

pub same_database : (b : DatabaseState) → IsDatabaseAfter b b
same_database b = record { same = refl; many_groups = refl }

pub database_then : (a b c : DatabaseState) → IsDatabaseAfter a b → IsDatabaseAfter b c → IsDatabaseAfter a c
database_then a b c one two = search arith

pub still_kept : EnginesLeaveSessions → (all : Dqbf) (engine : Engine) (groups : List ℕ) (silent : Bool)
    (old new : ProofLog) → Grew (IsAddedLive all engine groups silent old.entries) old new → IsKept all old.entries →
    IsKept all new.entries
still_kept law all engine groups silent old new grew kept =
    let left = law all engine groups silent old new grew in
    record {
      origins = left.origins kept.origins;
      new_rows = left.new_rows kept.new_rows;
      models = left.models kept.models;
      givens = left.givens kept.givens;
    }

-- the search's formula is the log's
now_live : (f : Dqbf) (b : DatabaseState) (c : Checker) (p : Definability) (ready : Bool) (es : List Entry) →
    IsUnderWay f b c p ready es →
    f ≡ live_formula (all_of b) es
now_live f b c p ready es way = way.now_is ∙ sym (ap (formula_by (all_of b)) way.live)

no_groups : (p : List ℕ) (g h : ℕ) → Contains p g → Contains [] h → g ≢ h
no_groups p g h mine (k, below, is) same = absurd (omega (arith, below))

pub questions_left : EnginesLeaveSessions → EnginesLeaveDatabases → EnginesLeaveStores → CheckersStay →
    QuestionsLeaveSearches
questions_left law databases stores stay f b c p ready old new asked copied way =
    let all = all_of b in
    let now = now_live f b c p ready old.entries way in
    let mine = asked_live all f copies [] old new now asked in
    let other = asked_live all f instances [] old new now asked in
    let left = law all copies [] true old new mine in
    let faults = same_faults all copies [] true old new refl mine in
    let room = same_room all copies [] true old new mine in
    let few = way.faults in
    let many = ap length faults in (
      record {
        went = record {
          way = record {
            formula = way.formula;
            now_is = way.now_is;
            live = left.live ∙ way.live;
            kept = still_kept law all copies [] true old new mine way.kept;
            database = (databases all b copies [] true old new mine refl (no_groups (groups_of b))).0 way.database;
            checked = same_prefix b.file all.matrix b.file.matrix c new.entries
                (checker_left stay all copies [] true c old new refl (λ h gate has. absurd (let below = has.1 in
                omega (arith, below))) mine (same_prefix b.file b.file.matrix all.matrix c old.entries way.checked));
            copied = copied;
            stored = stores all all (frames_of b) p instances [] true old new other refl (no_groups (copy_groups p))
                way.stored;
            apart = way.apart;
            faults = omega (arith, few, many, room);
            new_faults = others_new all copies [] true old new refl mine left.before way.new_faults;
          };
          database = same_database b;
          grew = log_grew all copies [] true old.entries old new mine;
        };
        undecided = left.decisions;
        rows = left.rows;
        room = room;
        before = left.before;
      },
      faults,
    )

pub turns_left : EnginesLeaveSessions → CircuitsAddLive → EnginesLeaveDatabases → EnginesLeaveStores →
    SessionsLeaveCopies → ActiveGroupsAreStored → TurnsLeaveSearches
turns_left law add databases stores sessions active f b c d p ready silent old new turned way =
    let all = all_of b in
    let group = group_of c in
    let now = now_live f b c p ready old.entries way in
    let grew = add all group silent old new
    (subst (λ g. Grew (IsAddedBy g circuits group silent old.entries) old new) now turned.grew) in
    let left = law all circuits (group ∷ []) silent old new grew in
    let first = contains_first c.gates.group c.gates.earlier.items in
    let off_databases : (g h : ℕ) → Contains (groups_of b) g → Contains (group ∷ []) h → g ≢ h =
    λ g h mine one same. way.apart.gates c.gates.group first
    (subst (Contains (groups_of b)) (same ∙ sym (only_one group h one)) mine) in
    let off_copies : (g h : ℕ) → Contains (copy_groups p) g → Contains (group ∷ []) h → g ≢ h =
    λ g h mine one same. way.apart.copies_gates c.gates.group first
    (subst (Contains (copy_groups p)) (same ∙ sym (only_one group h one)) mine) in
    record {
      went = record {
        way = record {
          formula = way.formula;
          now_is = way.now_is;
          live = left.live ∙ way.live;
          kept = still_kept law all circuits (group ∷ []) silent old new grew way.kept;
          database = (databases all b circuits (group ∷ []) silent old new grew refl off_databases).0 way.database;
          checked = same_prefix b.file (now_of b).matrix b.file.matrix d new.entries
              (subst (λ g. IsChecker g d new.entries) way.now_is turned.checker);
          copied = λ on. sessions f all p circuits (group ∷ []) silent old new grew
              (λ g h mine one. off_copies g h (active all (frames_of b) p old.entries way.stored g mine) one)
              (way.copied on);
          stored = stores all all (frames_of b) p circuits (group ∷ []) silent old new grew refl off_copies way.stored;
          apart = record {
            gates = λ g gate inside. elim (turned.fresh g gate) [
              | inl was ↦ way.apart.gates g was inside
              | inr none ↦ database_named b old.entries way.database (variable_of g.selector) inside none
            ];
            copies = way.apart.copies;
            copies_gates = λ g gate inside. elim (turned.fresh g gate) [
              | inl was ↦ way.apart.copies_gates g was inside
              | inr none ↦ stored_named all (frames_of b) (store_of p) old.entries way.stored (variable_of g.selector)
                  inside none
            ];
          };
          faults = turned.few;
          new_faults = turns_new all group silent old new grew left.before
              (turned.checker.gates.own c.gates.group (turned.kept c.gates.group first)) way.new_faults;
        };
        database = same_database b;
        grew = log_grew all circuits (group ∷ []) silent old.entries old new grew;
      };
      undecided = left.decisions;
      rows = left.rows;
      room = same_room all circuits (group ∷ []) silent old new grew;
      before = left.before;
    }

pub instances_left : EnginesLeaveSessions → EnginesLeaveStores → SessionsLeaveCopies → ActiveGroupsAreStored →
    CheckersStay → InstancesLeaveSearches
instances_left law stores sessions active stay f b after c p ready silent old new grew step database fresh way =
    let same = step.same in
    let all = all_of b in
    let groups = groups_of b in
    let left = law all instances groups silent old new grew in
    let faults = same_faults all instances groups silent old new refl grew in
    let room = same_room all instances groups silent old new grew in
    let few = way.faults in
    let many = ap length faults in
    let all_same : all_of after ≡ all = ap all_of same in
    let file_same : after.file ≡ b.file = ap (λ (x : DatabaseState). x.file) same in
    let off : (g h : ℕ) → Contains (copy_groups p) g → Contains groups h → g ≢ h =
    λ g h mine other is. way.apart.copies g mine (subst (Contains groups) (sym is) other) in
    let checked = checker_left stay all instances groups silent c old new refl way.apart.gates grew
    (same_prefix b.file b.file.matrix all.matrix c old.entries way.checked) in
    let stored = stores all all (frames_of b) p instances groups silent old new grew refl off way.stored in (
      record {
        went = record {
          way = record {
            formula = way.formula;
            now_is = way.now_is ∙ sym (ap now_of same);
            live = left.live ∙ way.live ∙ ap (λ (x : DatabaseState). Some (live_of x)) (sym same);
            kept = subst (λ a. IsKept a new.entries) (sym all_same)
                (still_kept law all instances groups silent old new grew way.kept);
            database = database;
            checked = subst (λ g. IsChecker g c new.entries) (sym file_same)
                (same_prefix b.file all.matrix b.file.matrix c new.entries checked);
            copied = λ on. sessions f all p instances groups silent old new grew
                (λ g h mine other. off g h (active all (frames_of b) p old.entries way.stored g mine) other) (way.copied on);
            stored = subst (λ (x : DatabaseState). IsCopyStore (all_of x) (frames_of x) p new.entries) (sym same) stored;
            apart = apart_still b.file all (frames_of b) b after c p old.entries way.checked way.stored fresh way.apart;
            faults = omega (arith, few, many, room);
            new_faults = others_new all instances groups silent old new refl grew left.before way.new_faults;
          };
          database = step;
          grew = log_grew all instances groups silent old.entries old new grew;
        };
        undecided = left.decisions;
        rows = left.rows;
        room = room;
        before = left.before;
      },
      faults,
    )

-- what a failure of candidates comes to, whether the log has room for its round or not
pub failure_round : FailuresRefuteRows → RoundsLeaveDatabases → CheckersStayWithRounds → RoundsLeaveCopies →
    RoundsLeaveStores → FailuresAreRounds
failure_round refute databases checkers copies_stay stores f b c p ready entries output row values j o are bad =
    let way = o.way in
    let all = all_of b in
    let well = way.formula in
    let rows = b.table.rows in
    let now = now_live f b c p ready entries way in
    let new : IsNewFailure f entries row values j = refute f output entries row values j bad
    (λ inside. no_old_row f well.prefix rows are.points output are.are_points are.agree row values j bad
    (subst (λ rs. Contains rs row) o.rows inside)) in
    let model : HasModelWith f (rows_of entries) row values = subst (λ rs. HasModelWith f rs row values) (sym o.rows)
    (extends f well.prefix rows are.points output are.are_points are.agree row values j bad) in
    let full : IsFullDatabase b entries = record { database = way.database; rows = o.rows } in
    let left = databases b row values j entries full in
    let few = way.faults in (
      new,
      model,
      record {
        way = record {
          formula = well;
          now_is = way.now_is;
          live = way.live;
          kept = search arith;
          database = left.0;
          checked = checkers b.file c entries row values j way.checked;
          copied = λ on. copies_stay f p entries row values j (way.copied on);
          stored = stores all (frames_of b) p entries row values j way.stored;
          apart = way.apart;
          faults = omega (arith, few);
          new_faults = way.new_faults;
        };
        rows = left.1;
        undecided = o.undecided;
        row_length = bad.row_length;
        room = omega (arith, few);
      },
    )

-- an instance's group is one of the database's
instance_group : (b : DatabaseState) (es : List Entry) → IsDatabase b es → (k j group : ℕ) (rest : List Literal) →
    Contains es (Given (Instance k j) (negative group ∷ rest)) → Contains (groups_of b) group
instance_group b es database k j group rest has = by (frame_group b es database k j group rest has)
  where
    by : IsInFrame b (frame_of (frames_of b) j) (negative group ∷ rest) → Contains (groups_of b) group
    by (inl (zero_is, inside)) = (
      0,
      omega arith,
      sym (in_one_group group b.table.group (negative group ∷ rest)
          (rest, refl) inside),
    )
    by (inr (g, is, inside)) = subst (Contains (groups_of b)) (sym (in_one_group group (variable_of g.selector)
        (negative group ∷ rest) (rest, refl) inside)) (has_number b _ g is)

pub search_states_grouped : InstancesAreGrouped → CopiesAreGrouped → CopiesAreStored → SearchStatesAreGrouped
search_states_grouped databases grouped stored b c p entries database store apart = record {
  instances = databases b entries database;
  copies = grouped (all_of b) (frames_of b) p entries store;
  apart = λ k j side j' group group' rest rest' has has'. (
    λ same. apart.copies group (subst (Contains (copy_groups p)) (sym same)
        (stored (all_of b) (frames_of b) p entries store side j' group' rest' has'))
        (instance_group b entries database k j group rest has),
    λ none. absurd none,
  );
}

pub logs_left : EnginesLeaveSessions → InstancesLeaveLogs
logs_left law all groups silent old new grew =
    let left = law all instances groups silent old new grew in
    record {
      kept = still_kept law all instances groups silent old new grew;
      undecided = left.decisions;
      new_faults = others_new all instances groups silent old new refl grew left.before;
      grew = log_grew all instances groups silent old.entries old new grew;
    }
