-- A search state behind a search is ready for the next one.
use Rattle.std.proofs.Common.{◌≡◌, ℕ, Bool, List, [], ◌∷◌, ◌++◌, sym, ◌∙◌, ap, subst, arith}
use Rattle.std.specs.List.{Contains}
use Rattle.dq_lits.specs.Expansion.{IsExpansionUnsatisfiable}
use Rattle.dq_lits.specs.Formula.{Dqbf}
use Rattle.hint_log.specs.Entries.{Entry, Given, Round, Begun, ProofLog, beginnings_of}
use Rattle.hint_log.specs.Growth.{Each}
use Rattle.hint_log.specs.Naming.{rows_of}
use Rattle.hint_log.specs.ProductiveSession.{IsProductiveSession}
use Rattle.hint_log.specs.declared.origins.Origin.TheVariants.{Fault}
use Rattle.oracle.specs.Searched.{IsSearched}
use Rattle.aig_graph.specs.Graph.{AigGraph}
use Rattle.dq_session.specs.Databases.{DatabaseState, all_of, frames_of, live_of, now_of}
use Rattle.known_functions.specs.Searching.{HasInputs}
use Rattle.repair_loop.specs.declared.search_states.SearchState.{SearchState}
use Rattle.repair_loop.specs.SearchStates.{IsOfSearch, IsDatabaseAfter, CanBeginSearch, HasBegun, IsAnsweredFalse}
use Rattle.repair_loop.specs.Preservation.{SearchStatesAreGrouped}
use Rattle.repair_loop.specs.Turning.{IsUnderWay}
use Rattle.repair_loop.proofs.LogGrowth.{some_begun, some_live}

-- faults and rounds of the search belong to it
since_searched : (more : List Entry) (live : List ℕ) (old : List Entry) → beginnings_of more ≡ 0 →
    Each IsOfSearch old → Each IsOfSearch (more ++ Begun live ∷ old)
since_searched [] live old none tried = (tt, tried)
since_searched (Given (Fault j i leaf) c ∷ more) live old none tried =
    (some_live more live old, since_searched more live old none tried)
since_searched (Round row values j ∷ more) live old none tried =
    (some_live more live old, since_searched more live old none tried)
since_searched (Begun numbers ∷ more) live old none tried = absurd (omega (arith, none))
since_searched (Given _ c ∷ more) live old none tried = (tt, since_searched more live old none tried)
since_searched (_ ∷ more) live old none tried = (tt, since_searched more live old none tried)

module _ (grouped : SearchStatesAreGrouped) (f : Dqbf) (b after : DatabaseState) (d e : SearchState) (ready : Bool) (graph more : AigGraph)
    (old new : ProofLog) (r : CanBeginSearch b d graph old.entries) (begun : HasBegun (live_of b) old.entries new.entries)
    (same : IsDatabaseAfter b after) (way : IsUnderWay f after e.checker e.definability ready new.entries)
    (rows : rows_of new.entries ≡ after.table.rows) (searched : IsSearched new.entries)
    (named : e.begun.items ≡ live_of b) (inputs : more.inputs ≡ graph.inputs) where
  session : IsProductiveSession (all_of after) (frames_of after) new.entries
  session = record {
    givens_match_origins = way.kept.origins;
    lemmas_are_derived = searched.derived;
    lemmas_are_new = searched.new;
    rounds_refute_new_rows = way.kept.new_rows;
    rounds_follow_a_model = way.kept.models;
    givens_are_not_repeated = way.kept.givens;
    groups_are_frames = grouped after e.checker e.definability new.entries way.database way.stored way.apart;
  }

  pub ready_again : CanBeginSearch after e more new.entries
  ready_again =
      let few = way.faults in
      let one = some_begun (live_of b) old.entries new.entries begun in
      record {
        database = record { database = way.database; rows = rows };
        search_state = search arith;
        session = session;
        searched = subst (Each IsOfSearch) (sym begun.grown)
            (since_searched begun.more (live_of b) old.entries begun.none r.searched);
        faults = omega (arith, few, one);
        inputs = subst (λ g. HasInputs g more) (sym (ap (λ (x : DatabaseState). x.file) same.same)) (inputs ∙ r.inputs);
      }

pub answered_back : (b after : DatabaseState) (log : ProofLog) (id : ℕ) → IsDatabaseAfter b after →
    IsAnsweredFalse after log id → IsAnsweredFalse b log id
answered_back b after log id same a = record {
  unsatisfiable = subst (λ g. IsExpansionUnsatisfiable g (rows_of log.entries)) (ap now_of same.same) a.unsatisfiable;
  shown = record {
    clause = a.shown.clause;
    hints = a.shown.hints;
    earlier = a.shown.earlier;
    answered = a.shown.answered;
    last = a.shown.last;
    decides = a.shown.decides;
    live = λ k j c reached. subst (λ ns. Contains ns j) (ap live_of same.same) (a.shown.live k j c reached);
  };
}
