-- A search state for a file's database is ready for the first search.
use Rattle.std.proofs.Common.{◌≡◌, ◌≢◌, ◌+◌, ℕ, zero, suc, Bool, true, false, List, [], ◌∷◌, ◌++◌, length, replicate, None, refl, sym, ◌∙◌, ap, subst, arith}
use Rattle.std.specs.List.{Contains, filter}
use Rattle.std.specs.Option.{unwrap_or}
use Rattle.std.proofs.lemmas.List.{append-nil}
use Rattle.list_laws.proofs.Members.{filter_keeps, contains_first}
use Rattle.dq_lits.specs.Formula.{Dqbf}
use Rattle.dq_lits.specs.Literal.{Literal, variable_of}
use Rattle.hint_log.specs.Deciding.{IsUndecided}
use Rattle.hint_log.specs.Entries.{Entry, Named, Given, Learned, Answer, Round, Begun, ProofLog, name_of}
use Rattle.hint_log.specs.Growth.{Each, EachOf, Grew}
use Rattle.hint_log.specs.Live.{live_numbers}
use Rattle.hint_log.specs.Naming.{rows_of}
use Rattle.hint_log.specs.ProductiveLog.{MatchesOrigin, IsProductiveLog, fault_groups}
use Rattle.hint_log.specs.ProductiveSession.{MatchesLiveOrigin}
use Rattle.hint_log.specs.declared.origins.Origin.{Origin}
use Rattle.hint_log.specs.declared.origins.Origin.TheVariants.{Gate, Fault}
use Rattle.log_laws.specs.Engines.{Engine, circuits, instances, copies, same_engine, is_own, HasNone, IsAddedBy, EnginesLeaveRest}
use Rattle.log_laws.specs.Sessions.{IsAddedLive, EnginesLeaveSessions, PlainLogsAreSessions}
use Rattle.oracle.specs.Searched.{IsSearched}
use Rattle.aig_graph.specs.Graph.{AigGraph}
use Rattle.circuit_cnf.specs.declared.checkers.Checker.{Checker}
use Rattle.circuit_cnf.specs.Checking.{AreNewGroups, IsChecker, gate_groups, group_of}
use Rattle.dq_session.specs.Databases.{DatabaseState, all_of, frames_of, IsDatabase}
use Rattle.dq_session.specs.Changes.{groups_of}
use Rattle.dq_session.specs.Preservation.{EnginesLeaveDatabases}
use Rattle.definability.specs.Leaving.{EnginesLeaveStores}
use Rattle.definability.specs.Store.{IsCopyStore, copy_groups, store_of}
use Rattle.definability.specs.declared.definability.Definability.{Definability}
use Rattle.known_functions.specs.Searching.{HasInputs}
use Rattle.repair_loop.specs.declared.search_states.SearchState.{SearchState}
use Rattle.repair_loop.specs.SearchStates.{AreApart, IsFirstDatabase, IsOfSearch, CanBeginSearch}
use Rattle.repair_loop.specs.Preservation.{SearchStatesAreGrouped}
use Rattle.repair_loop.proofs.LiveDatabases.{database_named}
use Rattle.repair_loop.proofs.LiveGrowth.{same_faults}
use Rattle.repair_loop.proofs.StoredGroups.{stored_named}
use Rattle.repair_loop.proofs.WholeSearches.{IsPlain, IsFirstLog, first_log, still_plain, productive}

-- where no search began, what is right for one formula is right in a session
live_origin : (f : Dqbf) (earlier : List Entry) (origin : Origin) (c : List Literal) → live_numbers earlier ≡ None →
    MatchesOrigin f earlier (Given origin c) → MatchesLiveOrigin f earlier (Given origin c)
live_origin f earlier (Fault j i leaf) c none is = search arith
live_origin f earlier _ c none is = is

still_none : (f : Dqbf) (engine : Engine) (group : ℕ) (start more old : List Entry) →
    EachOf (IsAddedBy f engine group true start) more old → live_numbers old ≡ None → live_numbers (more ++ old) ≡ None
still_none f engine group start [] old each none = none
still_none f engine group start (Round row values j ∷ more) old each none = absurd each.0
still_none f engine group start (Begun live ∷ more) old each none = absurd each.0
still_none f engine group start (_ ∷ more) old each none = still_none f engine group start more old each.1 none

live_each : (f : Dqbf) (engine : Engine) (group : ℕ) (start more old : List Entry) → live_numbers old ≡ None →
    EachOf (IsAddedBy f engine group true start) more old →
    EachOf (IsAddedLive f engine (group ∷ []) true start) more old
live_each f engine group start [] old none each = tt
live_each f engine group start (Named v n ∷ more) old none each =
    (each.0, live_each f engine group start more old none each.1)
live_each f engine group start (Given origin c ∷ more) old none each =
    search (arith, live_origin, still_none, (live_each f engine group start more old none each.1))
live_each f engine group start (Learned c hints ∷ more) old none each =
    (tt, live_each f engine group start more old none each.1)
live_each f engine group start (Answer c hints ∷ more) old none each =
    search (arith, still_none, (live_each f engine group start more old none each.1))
live_each f engine group start (_ ∷ more) old none each = absurd each.0

pub live_by : (f : Dqbf) (engine : Engine) (group : ℕ) (old new : ProofLog) → live_numbers old.entries ≡ None →
    Grew (IsAddedBy f engine group true old.entries) old new →
    Grew (IsAddedLive f engine (group ∷ []) true old.entries) old new
live_by f engine group old new none grew = search (arith, live_each)

pub empty_has_none : (engine : Engine) (entries : List Entry) → entries ≡ [] → HasNone engine entries
empty_has_none engine entries empty e own inside = search arith

-- a file's database names and gives nothing for circuits and copies
only_instances : (f : Dqbf) (other : Engine) → same_engine other instances ≡ false → (start more : List Entry) →
    EachOf (IsAddedLive f instances [] true start) more [] → (e : Entry) → Contains (more ++ []) e →
    is_own other e ≡ true → ⊥
only_instances f other differ start [] each e (k, below, is) own = absurd (omega (arith, below))
only_instances f other differ start (Round row values j ∷ more) each e (zero, below, is) own = absurd each.0
only_instances f other differ start (Begun live ∷ more) each e (zero, below, is) own = absurd each.0
only_instances f other differ start (x ∷ more) each e (suc k, below, is) own =
    only_instances f other differ start more each.1 e (k, omega (arith, below), is) own
only_instances f other differ start (_ ∷ more) each e (zero, below, is) own = search arith

pub first_has_none : (f : Dqbf) (other : Engine) → same_engine other instances ≡ false → (b : DatabaseState)
    (es : List Entry) → IsFirstDatabase f b es → HasNone other es
first_has_none f other differ b es first e own has =
    search (arith, (only_instances f other differ first.before.entries first.alone.more))

pub first_no_faults : (f : Dqbf) (b : DatabaseState) (es : List Entry) → IsFirstDatabase f b es → fault_groups es ≡ []
first_no_faults f b es first =
    ap fault_groups (sym first.entries_are)
    ∙ same_faults f instances [] true first.before first.after refl first.alone
    ∙ ap fault_groups first.empty

-- no group has faults, so no fault was given, and no round came
no_groups_before : (e : Entry) (es : List Entry) → fault_groups (e ∷ es) ≡ [] → fault_groups es ≡ []
no_groups_before (Given (Gate v i) c) es none = none
no_groups_before (Given (Fault j i leaf) []) es none = none
no_groups_before (Given (Fault j i leaf) (l ∷ c)) es none = search arith
no_groups_before (Given _ c) es none = none
no_groups_before _ es none = none

no_fault_given : (j i : ℕ) (leaf : _) (l : Literal) (c : List Literal) (es : List Entry) →
    fault_groups (Given (Fault j i leaf) (l ∷ c) ∷ es) ≡ [] → ⊥
no_fault_given j i leaf l c es none = search (arith, no_groups_before)

not_nil : (xs : List (List Bool)) (x : List Bool) → xs ++ x ∷ [] ≡ [] → ⊥
not_nil [] x is = cc
not_nil (y ∷ xs) x is = cc

given_untried : (f : Dqbf) (es : List Entry) (origin : Origin) (c : List Literal) →
    fault_groups (Given origin c ∷ es) ≡ [] → MatchesOrigin f es (Given origin c) → IsOfSearch es (Given origin c)
given_untried f es (Fault j i leaf) c none is = search (arith, no_fault_given)
given_untried f es _ c none is = tt

pub untried : (f : Dqbf) (es : List Entry) → fault_groups es ≡ [] → rows_of es ≡ [] → Each (MatchesOrigin f) es →
    Each IsOfSearch es
untried f [] none no_rows right = tt
untried f (Given origin c ∷ es) none no_rows right = (
  given_untried f es origin c none right.0,
  untried f es (no_groups_before (Given origin c) es none) no_rows right.1,
)
untried f (Round row values j ∷ es) none no_rows right = absurd (not_nil (rows_of es) row no_rows)
untried f (_ ∷ es) none no_rows right = (tt, untried f es none no_rows right.1)

same_groups : (f : Dqbf) (b : DatabaseState) (es : List Entry) → IsFirstDatabase f b es → groups_of b ≡ b.table.group ∷ []
same_groups f b es first = ap groups_of first.begun_is

first_all : (f : Dqbf) (b : DatabaseState) (es : List Entry) → IsFirstDatabase f b es → all_of b ≡ f
first_all f b es first = search (arith, append-nil)

first_frames : (f : Dqbf) (b : DatabaseState) (es : List Entry) → IsFirstDatabase f b es →
    frames_of b ≡ replicate (length f.matrix) 0
first_frames f b es first = search (arith, append-nil, replicate)

contains_later : (x : Entry) (es : List Entry) (e : Entry) → Contains es e → Contains (x ∷ es) e
contains_later x es e (k, below, is) = (suc k, omega (arith, below), is)

-- and what is left by the test is an element
contains_unfiltered : (test : Entry → Bool) (es : List Entry) (e : Entry) → Contains (filter test es) e → Contains es e
contains_unfiltered test [] e inside = inside
contains_unfiltered test (x ∷ es) e inside = search (arith, (contains_unfiltered test es e), contains_later)

-- an engine of which the log has nothing gets nothing by another engine's call
pub none_stays : EnginesLeaveRest → (which : Engine) (f : Dqbf) (engine : Engine) (group : ℕ) (silent : Bool)
    (old new : ProofLog) → same_engine which engine ≡ false
    → Grew (IsAddedBy f engine group silent old.entries) old new → HasNone which old.entries → HasNone which new.entries
none_stays law which f engine group silent old new other grew none e own inside =
    let left = law f engine group silent old new grew in
    let here = filter_keeps (is_own which) new.entries e own inside in
    none e own (contains_unfiltered (is_own which) old.entries e
    (subst (λ es. Contains es e) (left.others which other) here))

-- the laws that a new search state's database stands by
pub record FirstLaws : Type 0 where
  pub rest : EnginesLeaveRest
  pub sessions : EnginesLeaveSessions
  pub plain : PlainLogsAreSessions
  pub databases : EnginesLeaveDatabases
  pub stores : EnginesLeaveStores
  pub grouped : SearchStatesAreGrouped

module _ (laws : FirstLaws) (f : Dqbf) (b : DatabaseState) (first mid : ProofLog)
    (start : IsFirstDatabase f b first.entries)
    (copied : (group : ℕ) → Grew (IsAddedBy f copies group true first.entries) first mid) where
  first_is : IsFirstLog f first.entries
  first_is = first_log laws.sessions laws.plain f b first.entries start

  pub mid_plain : IsPlain f mid.entries
  mid_plain = still_plain laws.rest f copies 0 true first mid (copied 0) first_is.plain

  pub mid_undecided : IsUndecided f mid.entries
  mid_undecided = (laws.rest f copies 0 true first mid (copied 0)).decisions refl first_is.undecided

  pub mid_none : live_numbers mid.entries ≡ None
  mid_none = (laws.rest f copies 0 true first mid (copied 0)).live ∙ first_is.none

  pub mid_no_circuits : HasNone circuits mid.entries
  mid_no_circuits = none_stays laws.rest circuits f copies 0 true first mid refl (copied 0)
      (first_has_none f circuits refl b first.entries start)

module _ (laws : FirstLaws) (f : Dqbf) (first mid last : ProofLog)
    (checked : (group : ℕ) → Grew (IsAddedBy f circuits group true mid.entries) mid last) where
  pub end_plain : IsPlain f mid.entries → IsPlain f last.entries
  end_plain plain = still_plain laws.rest f circuits 0 true mid last (checked 0) plain

  pub end_undecided : IsUndecided f mid.entries → IsUndecided f last.entries
  end_undecided undecided = (laws.rest f circuits 0 true mid last (checked 0)).decisions refl undecided

  pub end_none : live_numbers mid.entries ≡ None → live_numbers last.entries ≡ None
  end_none none = (laws.rest f circuits 0 true mid last (checked 0)).live ∙ none

module _ (laws : FirstLaws) (f : Dqbf) (b : DatabaseState) (first mid last : ProofLog)
    (start : IsFirstDatabase f b first.entries) (p : Definability) (c : Checker)
    (copied : (group : ℕ) → Grew (IsAddedBy f copies group true first.entries) first mid)
    (stored : IsCopyStore f (replicate (length f.matrix) 0) p mid.entries)
    (new_copies : (g : ℕ) → Contains (copy_groups p) g → name_of first.entries g ≡ None)
    (checked : (group : ℕ) → Grew (IsAddedBy f circuits group true mid.entries) mid last)
    (checker : IsChecker f c last.entries) (new_checker : AreNewGroups (gate_groups c) mid.entries)
    (no_faults : fault_groups last.entries ≡ fault_groups mid.entries) where
  log : IsFirstLog f first.entries
  log = first_log laws.sessions laws.plain f b first.entries start

  -- a number that is none of the database's
  off : (g h : ℕ) → Contains (groups_of b) g → Contains ((b.table.group + 1) ∷ []) h → g ≢ h
  off g h mine (zero, below, is) same =
      one (subst (λ gs. Contains gs g) (same_groups f b first.entries start) mine)
    where
      one : Contains (b.table.group ∷ []) g → ⊥
      one (zero, low, here) = omega (arith, here, is, same)
      one (suc k, low, here) = omega (arith, low)
  off g h mine (suc k, below, is) same = omega (arith, below)

  mid_live : live_numbers mid.entries ≡ None
  mid_live = (laws.rest f copies 0 true first mid (copied 0)).live ∙ log.none

  mid_database : IsDatabase b mid.entries
  mid_database = (laws.databases f b copies ((b.table.group + 1) ∷ []) true first mid
      (live_by f copies (b.table.group + 1) first mid log.none (copied (b.table.group + 1))) refl off).0 start.database

  is_new : (h : ℕ) → Contains (group_of c ∷ []) h → name_of mid.entries h ≡ None
  is_new h (zero, below, is) = subst (λ n. name_of mid.entries n ≡ None) is
      (new_checker c.gates.group (contains_first c.gates.group c.gates.earlier.items))
  is_new h (suc k, below, is) = absurd (omega (arith, below))

  last_database : IsDatabase b last.entries
  last_database = (laws.databases f b circuits (group_of c ∷ []) true mid last
      (live_by f circuits (group_of c) mid last mid_live (checked (group_of c))) refl
      (λ g h mine new same. database_named b mid.entries mid_database g mine
      (ap (name_of mid.entries) same ∙ is_new h new))).0 mid_database

  last_stored : IsCopyStore f (replicate (length f.matrix) 0) p last.entries
  last_stored = laws.stores f f (replicate (length f.matrix) 0) p circuits (group_of c ∷ []) true mid last
      (live_by f circuits (group_of c) mid last mid_live (checked (group_of c))) refl
      (λ g h mine new same. stored_named f (replicate (length f.matrix) 0) (store_of p) mid.entries stored g mine
      (ap (name_of mid.entries) same ∙ is_new h new)) stored

  b_stored : IsCopyStore (all_of b) (frames_of b) p last.entries
  b_stored = subst (λ all. IsCopyStore all (frames_of b) p last.entries) (sym (first_all f b first.entries start))
      (subst (λ fs. IsCopyStore f fs p last.entries) (sym (first_frames f b first.entries start)) last_stored)

  apart : AreApart b c p
  apart = record {
    gates = λ g gate mine. database_named b mid.entries mid_database (variable_of g.selector) mine (new_checker g gate);
    copies = λ g mine here. database_named b first.entries start.database g here (new_copies g mine);
    copies_gates = λ g gate mine. stored_named f (replicate (length f.matrix) 0) (store_of p) mid.entries stored
        (variable_of g.selector) mine (new_checker g gate);
  }

  pub last_plain : IsPlain f last.entries
  last_plain = still_plain laws.rest f circuits 0 true mid last (checked 0)
      (still_plain laws.rest f copies 0 true first mid (copied 0) log.plain)

  pub first_ready : IsSearched last.entries → (d : SearchState) → d.checker ≡ c → d.definability ≡ p → d.begun.items ≡ [] →
      (graph : AigGraph) → HasInputs f graph → CanBeginSearch b d graph last.entries
  first_ready searched d is_checker is_definability is_begun graph inputs =
      let left = laws.rest f copies 0 true first mid (copied 0) in
      let right = laws.rest f circuits 0 true mid last (checked 0) in
      let none = right.live ∙ mid_live in
      let faults : fault_groups last.entries ≡ [] =
      no_faults ∙ left.faults refl ∙ first_no_faults f b first.entries start in
      let database_rows : rows_of first.entries ≡ [] =
      ap rows_of (sym start.entries_are) ∙ (laws.sessions f instances [] true start.before start.after start.alone).rows
      ∙ ap rows_of start.empty in
      let rows : rows_of last.entries ≡ [] = right.rows ∙ left.rows ∙ database_rows in
      let grouped = laws.grouped b c p last.entries last_database b_stored apart in
      let session = (laws.plain (all_of b) (frames_of b) last.entries none).0
      (subst (λ g. IsProductiveLog g last.entries) (sym (first_all f b first.entries start))
      (productive f last.entries last_plain searched)) grouped in
      let few : length (fault_groups last.entries) ≡ 0 = ap length faults in
      record {
        database = record { database = last_database; rows = rows ∙ sym start.no_rows };
        search_state = record {
          checked = subst (λ g. IsChecker g d.checker last.entries)
              (sym (ap (λ (x : DatabaseState). x.file) start.begun_is))
              (subst (λ x. IsChecker f x last.entries) (sym is_checker) checker);
          stored = subst (λ x. IsCopyStore (all_of b) (frames_of b) x last.entries) (sym is_definability) b_stored;
          apart = subst (λ x. AreApart b x d.definability) (sym is_checker) (subst (AreApart b c) (sym is_definability) apart);
          named = is_begun ∙ sym (ap (λ o. unwrap_or o []) none);
        };
        session = session;
        searched = untried f last.entries faults rows last_plain.origins;
        faults = omega (arith, few);
        inputs = subst (λ g. HasInputs g graph) (sym (ap (λ (x : DatabaseState). x.file) start.begun_is)) inputs;
      }
