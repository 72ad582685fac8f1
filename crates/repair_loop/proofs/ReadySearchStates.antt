-- A search state stays ready where frames and clauses come and go.
use Rattle.std.proofs.Common.{◌≡◌, ℕ, List, [], ◌∷◌, ◌++◌, length, replicate, Option, None, refl, ap, subst, arith, append_assoc}
use Rattle.std.specs.List.{Contains, filter_map, cons_option}
use Rattle.std.specs.Option.{option_map}
use Rattle.std.proofs.lemmas.List.{length-append, length-replicate}
use Rattle.dq_lits.specs.Literal.{variable_of}
use Rattle.hint_log.specs.Entries.{Entry}
use Rattle.hint_log.specs.Live.{with_matrix}
use Rattle.hint_log.specs.ProductiveSession.{IsProductiveSession}
use Rattle.oracle.specs.declared.groups.Group.{Group}
use Rattle.dq_session.specs.Databases.{DatabaseState, number_of, all_of, frames_of, IsDatabase}
use Rattle.dq_session.specs.Changes.{newest, groups_of, with_frame, with_clause}
use Rattle.dq_session.specs.Changing.{FramesOpen as OpenFramesLeaveDatabases, FramesClose as ClosedFramesLeaveDatabases, ClausesCome as ClausesLeaveDatabases}
use Rattle.definability.specs.Leaving.{ClausesLeaveStores}
use Rattle.definability.specs.Store.{IsCopyStore}
use Rattle.repair_loop.specs.Changes.{FramesOpen, FramesClose, ClausesCome}
use Rattle.repair_loop.proofs.GrownSessions.{session_grows}

none_more : (groups : List (Option Group)) →
    filter_map (option_map number_of) (groups ++ None ∷ []) ≡ filter_map (option_map number_of) groups
none_more [] = refl
none_more (o ∷ groups) = ap (cons_option (option_map number_of o)) (none_more groups)

pub frames_open : OpenFramesLeaveDatabases → FramesOpen
frames_open law b d graph entries r =
    let same : groups_of (with_frame b) ≡ groups_of b = ap (λ gs. b.table.group ∷ gs) (none_more b.groups) in
    record {
      database = record { database = law b entries r.database.database; rows = r.database.rows };
      search_state = record {
        checked = r.search_state.checked;
        stored = r.search_state.stored;
        apart = record {
          gates = λ g gate inside. r.search_state.apart.gates g gate
              (subst (λ gs. Contains gs (variable_of g.selector)) same inside);
          copies = λ g mine inside. r.search_state.apart.copies g mine (subst (λ gs. Contains gs g) same inside);
          copies_gates = r.search_state.apart.copies_gates;
        };
        named = r.search_state.named;
      };
      session = r.session;
      searched = r.searched;
      faults = r.faults;
      inputs = r.inputs;
    }

pub frames_close : ClosedFramesLeaveDatabases → FramesClose
frames_close law b d graph entries some r = search arith

-- each clause that was numbered has its frame
pub as_many_frames : (b : DatabaseState) (entries : List Entry) → IsDatabase b entries →
    length (frames_of b) ≡ length (all_of b).matrix
as_many_frames b entries database = search (arith, replicate, length-append, length-replicate)

pub clauses_come : ClausesLeaveDatabases → ClausesLeaveStores → ClausesCome
clauses_come law stores b d graph entries clause some bound r =
    let many = as_many_frames b entries r.database.database in
    let zeros : List ℕ = replicate (length b.file.matrix) 0 in
    let matrix : (b.file.matrix ++ b.added) ++ clause ∷ [] ≡ b.file.matrix ++ (b.added ++ clause ∷ []) =
    append_assoc b.file.matrix b.added (clause ∷ []) in
    let frames : (zeros ++ b.frames) ++ (newest b).number ∷ [] ≡ zeros ++ (b.frames ++ (newest b).number ∷ []) =
    append_assoc zeros b.frames ((newest b).number ∷ []) in
    let store = stores (all_of b) (frames_of b) d.definability entries (clause ∷ []) ((newest b).number ∷ []) many
    r.search_state.stored in
    let session = session_grows (all_of b) (clause ∷ []) (frames_of b) ((newest b).number ∷ []) many entries r.searched
    r.session in
    record {
      database = record { database = law b clause entries some bound r.database.database; rows = r.database.rows };
      search_state = record {
        checked = r.search_state.checked;
        stored = subst (λ fs. IsCopyStore (all_of (with_clause b clause)) fs d.definability entries) frames
            (subst (λ m. IsCopyStore (with_matrix b.file m) (frames_of b ++ (newest b).number ∷ []) d.definability entries)
            matrix store);
        apart = record {
          gates = r.search_state.apart.gates;
          copies = r.search_state.apart.copies;
          copies_gates = r.search_state.apart.copies_gates;
        };
        named = r.search_state.named;
      };
      session = subst (λ fs. IsProductiveSession (all_of (with_clause b clause)) fs entries) frames
          (subst (λ m. IsProductiveSession (with_matrix b.file m) (frames_of b ++ (newest b).number ∷ []) entries)
          matrix session);
      searched = r.searched;
      faults = r.faults;
      inputs = r.inputs;
    }
