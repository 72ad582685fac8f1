-- What a search over a whole file says of its formula.
use Rattle.std.proofs.Common.{◌≡◌, ◌⊎◌, inl, inr, ℕ, List, [], ◌∷◌, ◌++◌, None, Result, Ok, Err, OnErr, sym, ◌∙◌, ap, subst, arith}
use Rattle.std.specs.List.{Contains}
use Rattle.dq_lits.specs.Expansion.{IsExpansionUnsatisfiable}
use Rattle.dq_lits.specs.Formula.{Dqbf}
use Rattle.hint_log.specs.Deciding.{IsUndecided}
use Rattle.hint_log.specs.Entries.{Entry, Begun, ProofLog, beginnings_of}
use Rattle.hint_log.specs.Growth.{Each}
use Rattle.hint_log.specs.Live.{live_numbers, formula_of}
use Rattle.hint_log.specs.Naming.{rows_of}
use Rattle.hint_log.specs.ProductiveLog.{IsProductiveLog}
use Rattle.hint_log.specs.ProductiveSession.{MatchesLiveOrigin, IsUndecidedSince}
use Rattle.oracle.specs.Searched.{IsSearched}
use Rattle.hint_log.specs.declared.stops.Stop.{Stop}
use Rattle.dq_session.specs.Databases.{DatabaseState, all_of, live_of, now_of}
use Rattle.dq_session.specs.Changes.{begun}
use Rattle.repair_loop.specs.SearchStates.{IsKept, IsOfSearch, HasBegun, IsAnsweredFalse}
use Rattle.repair_loop.specs.Searching.{IsShownFalse}
use Rattle.repair_loop.specs.Turning.{AreFaultsNew}
use Rattle.repair_loop.proofs.PlainDecisions.{undecided_plainly}
use Rattle.repair_loop.proofs.WholeFormulas.{whole_file, all_is_file, now_is_file, all_live}
use Rattle.repair_loop.proofs.WholeSearches.{IsWhole, plainly, productive, none_whole}

whole_since : (f : Dqbf) (live : List ℕ) → formula_of f live ≡ f → (old : List Entry) → live_numbers old ≡ None →
    (more : List Entry) → beginnings_of more ≡ 0 → Each (IsWhole f) (more ++ Begun live ∷ old)
whole_since f live whole old none [] few = (whole, none_whole f old none)
whole_since f live whole old none (Begun numbers ∷ more) few = absurd (omega (arith, few))
whole_since f live whole old none (_ ∷ more) few = (tt, whole_since f live whole old none more few)

module _ (f : Dqbf) (b : DatabaseState) (is_begun : b ≡ begun f b.table) (old new : List Entry)
    (none : live_numbers old ≡ None) where
  all_is : all_of b ≡ f
  all_is = ap all_of is_begun ∙ all_is_file f b.table

  whole_live : formula_of f (live_of b) ≡ f
  whole_live = ap (λ (x : DatabaseState). formula_of f (live_of x)) is_begun ∙ whole_file f

  file_kept : IsKept (all_of b) new → IsKept f new
  file_kept kept = subst (λ g. IsKept g new) all_is kept

  pub file_productive : (P : Type 0) → HasBegun (live_of b) old new ⊎ (P × (new ≡ old)) → IsKept (all_of b) new →
      IsSearched new → IsProductiveLog f new
  file_productive P began kept searched =
      productive f new (plainly f new (whole began) (file_kept kept)) searched
    where
      whole : HasBegun (live_of b) old new ⊎ (P × (new ≡ old)) → Each (IsWhole f) new
      whole (inl begun) = subst (Each (IsWhole f)) (sym begun.grown)
          (whole_since f (live_of b) whole_live old none begun.more begun.none)
      whole (inr (reason, same)) = subst (Each (IsWhole f)) (sym same) (none_whole f old none)

  pub file_undecided : Each IsOfSearch old → IsUndecided f old → HasBegun (live_of b) old new →
      IsKept (all_of b) new → AreFaultsNew old new → IsUndecidedSince (all_of b) new → IsUndecided f new
  file_undecided tried before began kept faults undecided =
      let u = subst (λ g. IsUndecidedSince g new) all_is undecided in
      subst (IsUndecided f) (sym began.grown)
      (undecided_plainly f (live_of b) whole_live
      (λ j low high. subst (λ (x : DatabaseState). Contains (live_of x) j) (sym is_begun) (all_live f b.table j low high)) old
      tried none before began.more began.none
      (subst (Each (MatchesLiveOrigin f)) began.grown (file_kept kept).origins)
      (subst (AreFaultsNew old) began.grown faults) (subst (IsUndecidedSince f) began.grown u))

  pub file_false : (log : ProofLog) (id : ℕ) → IsAnsweredFalse b log id → IsShownFalse f log id
  file_false log id a = record {
    unsatisfiable = subst (λ g. IsExpansionUnsatisfiable g (rows_of log.entries))
        (ap now_of is_begun ∙ sym (now_is_file f b.table)) a.unsatisfiable;
    shown = record {
      clause = a.shown.clause;
      hints = a.shown.hints;
      earlier = a.shown.earlier;
      answered = a.shown.answered;
      last = a.shown.last;
      decides = a.shown.decides;
    };
  }

  -- where the search stopped, nothing is decided
  pub file_stopped : Each IsOfSearch old → IsUndecided f old → {T : Type 0} (result : Result T Stop) (P : Type 0) →
      HasBegun (live_of b) old new ⊎ (P × (new ≡ old)) → IsKept (all_of b) new →
      (HasBegun (live_of b) old new → AreFaultsNew old new) →
      (HasBegun (live_of b) old new → OnErr result (IsUndecidedSince (all_of b) new)) →
      OnErr result (IsUndecided f new)
  file_stopped tried before (Ok x) P began kept faults undecided = tt
  file_stopped tried before (Err e) P (inl begun) kept faults undecided =
      file_undecided tried before begun kept (faults begun) (undecided begun)
  file_stopped tried before (Err e) P (inr (reason, same)) kept faults undecided =
      subst (IsUndecided f) (sym same) before

pub entries_began : (live : List ℕ) (old new : ProofLog) (P : Type 0) →
    HasBegun live old.entries new.entries ⊎ (P × (new ≡ old)) →
    HasBegun live old.entries new.entries ⊎ (P × (new.entries ≡ old.entries))
entries_began live old new P (inl begun) = inl begun
entries_began live old new P (inr (reason, same)) = inr (reason, ap (λ (l : ProofLog). l.entries) same)
