-- The search before the first question.
use Rattle.std.proofs.Common.{◌≡◌, ◌+◌, ℕ, true, inl, inr, List, length, refl, ap}
use Rattle.dq_lits.specs.Formula.{Dqbf}
use Rattle.hint_log.specs.Entries.{Entry, Named, Given, ProofLog, with_entry}
use Rattle.hint_log.specs.Growth.{Grew}
use Rattle.hint_log.specs.ProductiveLog.{IsProductiveLog}
use Rattle.hint_log.specs.declared.names.Name.TheVariants.{Selector, Term}
use Rattle.hint_log.specs.declared.origins.Origin.TheVariants.{TermGate, Differ}
use Rattle.hint_log.proofs.NamedEntries.{named_contains}
use Rattle.log_laws.specs.Engines.{copies, IsAddedBy, EnginesLeaveRest, HasNone}
use Rattle.oracle.specs.Searched.{IsSearched}
use Rattle.definability.specs.Copies.{group_variable}
use Rattle.definability.specs.Growing.{HasCopied}
use Rattle.definition_export.specs.TermOrder.{HasRead}
use Rattle.definition_proofs.specs.Differing.{AreUndiffered}
use Rattle.definition_proofs.specs.Proving.{AreBeside}
use Rattle.definition_proofs.specs.Terms.{HasNoTerms}
use Rattle.definition_proofs.proofs.GivenDifferences.{undiffered_still}
use Rattle.definition_search.specs.Searching.{IsSearch}
use Rattle.definition_search.specs.declared.searching.Search.{Search}
use Rattle.definition_search.proofs.KeptSearches.{still_productive}

pub no_terms : (old new : List Entry) → HasNone copies old → HasCopied old new → HasNoTerms new
no_terms old new none copied = record {
  unnamed = λ v a b named. elim (copied.names v (Term a b) named) [
    | inl was ↦ none (Named v (Term a b)) refl (named_contains old v (Term a b) was)
    | inr now ↦ cc
  ];
  ungiven = λ v i c inside. elim (copied.givens (TermGate v i) c inside)
      [ inl was ↦ none (Given (TermGate v i) c) refl was | inr now ↦ cc ];
}

undiffered : (y : ℕ) (old new : List Entry) → HasNone copies old → HasCopied old new → AreUndiffered y new
undiffered y old new none copied leaf part c inside = elim (copied.givens (Differ y leaf part) c inside)
    [ inl was ↦ none (Given (Differ y leaf part) c) refl was | inr now ↦ cc ]

pub new_search : EnginesLeaveRest → (f : Dqbf) (s : Search) (old mid new : ProofLog) → HasNone copies old.entries →
    HasCopied old.entries mid.entries → Grew (IsAddedBy f copies 0 true old.entries) old mid →
    IsSearched mid.entries → Grew (IsAddedBy f copies 0 true mid.entries) mid new → IsSearched new.entries →
    new ≡ with_entry mid (Named (group_variable s.terms.group) (Selector (group_variable s.terms.group))) →
    IsProductiveLog f old.entries → AreBeside f s.definability s.terms new.entries → HasRead s.order new.entries →
    s.graph.inputs ≡ length f.universals + length f.existentials → IsSearch f s 0 new.entries
new_search law f s old mid new none copied first first_searched second second_searched is productive beside read inputs =
    record {
      productive = still_productive law f 0 mid new second second_searched
          (still_productive law f 0 old mid first first_searched productive);
      beside = beside;
      read = read;
      inputs = inputs;
      undiffered = λ i y far at. undiffered_still y (group_variable s.terms.group) mid.entries new.entries
          (ap (λ (l : ProofLog). l.entries) is) (undiffered y old.entries mid.entries none copied);
    }
