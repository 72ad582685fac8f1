-- What stands when a search has begun.
use Rattle.std.proofs.Common.{◌≡◌, ◌⊎◌, inl, inr, ◌+◌, ◌<◌, ℕ, zero, suc, false, List, [], ◌∷◌, ◌++◌, length, map, take, slice_get, Some, OnOk, OnErr, Result, Ok, Err, sym, ◌∙◌, ap, subst, arith}
use Rattle.dq_lits.specs.Formula.{Dqbf}
use Rattle.hint_log.specs.Entries.{Entry, Begun, ProofLog, with_entry}
use Rattle.hint_log.specs.Live.{last_live, live_numbers, before_beginning}
use Rattle.hint_log.specs.Naming.{rows_of}
use Rattle.hint_log.specs.ProductiveLog.{fault_groups, fault_room}
use Rattle.hint_log.specs.ProductiveSession.{IsUndecidedSince}
use Rattle.aig_graph.specs.Graph.{AigGraph}
use Rattle.dq_session.specs.Databases.{DatabaseState, all_of, frames_of, live_of, now_of}
use Rattle.dq_session.specs.Preservation.{BeginningsLeaveDatabases}
use Rattle.definability.specs.Leaving.{BeginningsLeaveStores}
use Rattle.known_functions.specs.Searching.{HasInputs}
use Rattle.repair_loop.specs.declared.search_states.SearchState.{SearchState}
use Rattle.repair_loop.specs.Beginning.{IsLoopInvariant, HasBegunUndecided, HasStarted}
use Rattle.repair_loop.specs.SearchStates.{CanBeginSearch, HasBegun}
use Rattle.repair_loop.specs.Turning.{AreFaultsNew, IsSearch}
use Rattle.repair_loop.proofs.LiveDatabases.{now_formed, are_numbers}
use Rattle.repair_loop.proofs.LiveGrowth.{checker_begun}
use Rattle.repair_loop.proofs.LogGrowth.{not_begun, begun_before}

mapped_one : {A B : Type 0} (f : A → B) (xs : List A) (i : ℕ) (x : A) → slice_get xs i ≡ Some x →
    map f (take i xs) ++ f x ∷ [] ≡ map f (take (suc i) xs)
mapped_one f [] i x is = cc
mapped_one f (y ∷ xs) zero x is = let same : y ≡ x = cc in ap (λ z. f z ∷ []) (sym same)
mapped_one f (y ∷ xs) (suc i) x is = ap (λ zs. f y ∷ zs) (mapped_one f xs i x is)

pub mapped_more : {A B : Type 0} (f : A → B) (xs : List A) (i : ℕ) (x : A) → slice_get xs i ≡ Some x →
    map f (take i xs) ++ f x ∷ [] ≡ map f (take (i + 1) xs)
mapped_more f xs i x is = search (arith, mapped_one)

pub ready_standing : (b : DatabaseState) (d : SearchState) (graph : AigGraph) (es : List Entry) → CanBeginSearch b d graph es →
    IsLoopInvariant b d.checker d.definability es
ready_standing b d graph es r = search arith

-- behind the beginning itself
pub begun_standing : BeginningsLeaveDatabases → BeginningsLeaveStores → (b : DatabaseState) (d : SearchState) (graph : AigGraph)
    (es : List Entry) → CanBeginSearch b d graph es → IsLoopInvariant b d.checker d.definability (Begun (live_of b) ∷ es)
begun_standing databases stores b d graph es r =
    let s = ready_standing b d graph es r in
    record {
      kept = record {
        origins = (are_numbers b es r.database.database, s.kept.origins);
        new_rows = (tt, s.kept.new_rows);
        models = (tt, s.kept.models);
        givens = (tt, s.kept.givens);
      };
      database = (databases b (live_of b) es).0 s.database;
      checked = checker_begun b.file d.checker (live_of b) es s.checked;
      stored = stores (all_of b) (frames_of b) d.definability es (live_of b) s.stored;
      apart = s.apart;
    }

-- there is room for a group of faults
pub begun_room : (b : DatabaseState) (d : SearchState) (graph : AigGraph) (es : List Entry) (live : List ℕ) → CanBeginSearch b d graph es
    → length (fault_groups (Begun live ∷ es)) < fault_room (Begun live ∷ es)
begun_room b d graph es live r = let few = r.faults in omega (arith, few)

pub no_start : (b : DatabaseState) (before after : SearchState) (graph : AigGraph) (old new : ProofLog) →
    CanBeginSearch b before graph old.entries → after.checker ≡ before.checker → after.definability ≡ before.definability →
    after.begun.items ≡ last_live new.entries → new ≡ old → HasStarted b after old new
no_start b before after graph old new r checker definability named same = search (arith, ready_standing)

-- what follows from success and from failure
pub either_way : {T E : Type 0} (r : Result T E) (A B P : Type 0) → (A → P) → (B → P) → OnOk r A → OnErr r B → P
either_way (Ok x) A B P f g a b = f a
either_way (Err e) A B P f g a b = g b

module _ (begun_databases : BeginningsLeaveDatabases) (begun_stores : BeginningsLeaveStores) (f : Dqbf) (b : DatabaseState) (d : SearchState)
    (graph : AigGraph) (old mid : ProofLog) (r : CanBeginSearch b d graph old.entries)
    (logged : mid ≡ with_entry old (Begun (live_of b))) (now : f ≡ now_of b) where
  abbrev all : Dqbf
  all = all_of b

  mid_standing : IsLoopInvariant b d.checker d.definability mid.entries
  mid_standing = subst (λ (l : ProofLog). IsLoopInvariant b d.checker d.definability l.entries) (sym logged)
      (begun_standing begun_databases begun_stores b d graph old.entries r)

  mid_room : length (fault_groups mid.entries) < fault_room mid.entries
  mid_room = search (arith, begun_room)

  mid_undecided : IsUndecidedSince all mid.entries
  mid_undecided = subst (λ (l : ProofLog). IsUndecidedSince all l.entries) (sym logged) tt

  mid_faults : AreFaultsNew (before_beginning mid.entries) mid.entries
  mid_faults = subst (λ (l : ProofLog). AreFaultsNew (before_beginning l.entries) l.entries) (sym logged) tt

  mid_rows : rows_of mid.entries ≡ b.table.rows
  mid_rows = ap (λ (l : ProofLog). rows_of l.entries) logged ∙ r.database.rows

  mid_live : live_numbers mid.entries ≡ Some (live_of b)
  mid_live = ap (λ (l : ProofLog). live_numbers l.entries) logged

  pub begun_undecided : HasBegunUndecided b old mid
  begun_undecided = search (arith, mid_live, mid_undecided, mid_faults)

  -- nothing followed yet
  pub only_begun : (after : SearchState) → after.checker ≡ d.checker → after.definability ≡ d.definability →
      after.begun.items ≡ last_live mid.entries → HasStarted b after old mid
  only_begun after checker definability named = search (arith, mid_standing, begun_undecided)

  -- and no question may be asked yet
  pub begun_search : (more : AigGraph) → HasInputs f more → IsSearch f more b d.checker d.definability false mid.entries
  begun_search more inputs =
      search (arith, mid_room, now_formed, mid_standing, mid_live, mid_faults, mid_rows, mid_undecided)

-- what a beginning that was refused says
pub start_undecided : (b : DatabaseState) (after : SearchState) (old new : ProofLog) → HasStarted b after old new →
    HasBegun (live_of b) old.entries new.entries → IsUndecidedSince (all_of b) new.entries
start_undecided b after old new s begun = by s.began
  where
    by : HasBegunUndecided b old new ⊎ (new ≡ old) → IsUndecidedSince (all_of b) new.entries
    by (inl began) = began.undecided
    by (inr same) = absurd (not_begun (live_of b) old.entries new.entries
        (ap (λ (l : ProofLog). l.entries) same) begun)

pub started_faults : (b : DatabaseState) (old new : ProofLog) → HasBegunUndecided b old new →
    AreFaultsNew old.entries new.entries
started_faults b old new began =
    subst (λ es. AreFaultsNew es new.entries) (begun_before (live_of b) old.entries new.entries began.begun)
    began.new_faults

pub start_faults : (b : DatabaseState) (after : SearchState) (old new : ProofLog) → HasStarted b after old new →
    HasBegun (live_of b) old.entries new.entries → AreFaultsNew old.entries new.entries
start_faults b after old new s begun = search (arith, (started_faults b old new), not_begun)
