-- What a search in the first copy alone leaves and shows.
use Rattle.std.proofs.Common.{◌≡◌, ℕ, ◌+◌, true, cond, inl, inr, List, ◌∷◌, Some, IsSome, get_or, refl, sym, ◌∙◌, ap, subst, arith}
use Rattle.std.specs.List.{All, Contains}
use Rattle.std.specs.Option.{option_and_then}
use Rattle.std.proofs.lemmas.Bool.{eq-eqb}
use Rattle.std.proofs.lemmas.List.Elements.{All-contains}
use Rattle.dq_lits.specs.Derivation.{holds}
use Rattle.dq_lits.specs.Formula.{Dqbf}
use Rattle.dq_lits.specs.Literal.{Literal, positive, negative, variable_of, opposite}
use Rattle.dq_lits.proofs.HeldLiterals.{held_of_all}
use Rattle.dq_lits.proofs.SignedLiterals.{as_positive}
use Rattle.hint_log.specs.Conditions.{IsId, AreLogged}
use Rattle.hint_log.specs.Deciding.{ReachesGiven}
use Rattle.hint_log.specs.Entries.{Entry, Answer, ProofLog, has_id, numbered, last_id, clause_of, name_of}
use Rattle.hint_log.specs.Growth.{Grew}
use Rattle.hint_log.specs.Naming.{is_selector_name}
use Rattle.hint_log.specs.Reached.{Reaches}
use Rattle.hint_log.specs.declared.names.Name.TheVariants.{Copy as CopyOf}
use Rattle.hint_log.specs.declared.origins.Origin.{Origin}
use Rattle.log_laws.specs.Engines.{copies, IsAddedBy}
use Rattle.log_laws.proofs.ReachedClauses.{answer_true}
use Rattle.oracle.specs.Calls.{IsMade, IsPlain, IsRefutedUnder, assumed}
use Rattle.oracle.specs.Searched.{IsSearched}
use Rattle.oracle.specs.declared.groups.Group.{Group}
use Rattle.definability.specs.Copies.{is_copy_of, group_variable, IsCopyGiven, IsDefinability}
use Rattle.definability.specs.Ruling.{copied_assignment, AreFirstCopies, ShowsClause}
use Rattle.definability.specs.declared.definability.Definability.{Definability}
use Rattle.definability.proofs.SearchAnswers.{answered, answer_last, definability_answered, names_answered, silent_grew}
use Rattle.definability.proofs.DividedAnswers.{of_copies, selector_not_copy, element_of, same_variable}
use Rattle.definability.proofs.LinkedInterpolants.{copy_given_true}
use Rattle.definability.proofs.Reached.{LinesAreImplied, of_answer, group_named, side_at, undecided_answer}

pub first_plain : (es : List Entry) (lits : List Literal) → AreFirstCopies es lits → All (IsPlain es) lits
first_plain es lits are i d lt =
    let l = get_or lits i d in
    let r = are i d lt in
    record { named = subst IsSome (sym r.1) refl; no_selector = ap is_selector_name r.1 }

module _ (implied : LinesAreImplied)
    (stays : (e : Entry) (entries : List Entry) (id : ℕ) → IsId entries id →
    numbered has_id (e ∷ entries) id ≡ numbered has_id entries id)
    (are_ids : (entries : List Entry) (id i : ℕ) → AreLogged entries → IsId entries id → Reaches entries id i →
    IsId entries i)
    (f : Dqbf) (p : Definability) (asked : List Literal) (old new : ProofLog) (id : ℕ) (definability : IsDefinability f p old.entries)
    (are : AreFirstCopies old.entries asked)
    (searched : IsSearched new.entries) (r : IsRefutedUnder old new (assumed p.first.groups.items asked) id) where
  abbrev under : List Literal
  under = assumed p.first.groups.items asked

  abbrev before : List Entry
  before = r.before.entries

  abbrev all : List Entry
  all = Answer r.clause r.hints ∷ r.before.entries

  definability_there : IsDefinability f p all
  definability_there = definability_answered f p under old new id definability r

  searched_there : IsSearched all
  searched_there = subst IsSearched (answered f p under old new id definability r) searched

  copy_named : (l : Literal) → holds asked l ≡ true → (v : ℕ) × (name_of all (variable_of l) ≡ Some (CopyOf 1 v))
  copy_named l h =
      let named = held_of_all (λ k. (v : ℕ) × (name_of old.entries (variable_of k) ≡ Some (CopyOf 1 v))) asked
      are l h in
      (named.0, names_answered f p under old new id definability r (variable_of l) (CopyOf 1 named.0) named.1)

  first_made : (g : Group) → Contains p.first.groups.items g → IsMade all g
  first_made g among = All-contains (IsMade all) p.first.groups.items g definability_there.first.made among

  first_selector : (g : Group) → Contains p.first.groups.items g → g.selector ≡ positive (group_variable g)
  first_selector g among = as_positive g.selector (first_made g among).positive

  -- a given clause that is reached is one of the first copy
  copy_clause : (origin : Origin) (c : List Literal) → ReachesGiven before r.hints origin c →
      (is_copy_of 1 origin ≡ true) × IsCopyGiven all f 1 c
  copy_clause origin c reached =
      let is = of_answer before r.clause r.hints searched_there origin c reached in
      let g = is.grouped.group in
      let named = group_named f before r.clause r.hints searched_there origin c is in
      elim (element_of p.first.groups.items asked (positive g) (r.negated (negative g) is.kept)) [
        | inl first ↦ side_at f before r.clause r.hints searched_there origin c is 1 (group_variable first.0)
            (same_variable g (group_variable first.0) (first.2 ∙ first_selector first.0 first.1))
            (definability_there.first.own first.0 first.1)
        | inr copy ↦ (let it = copy_named (positive g) copy in
            absurd (selector_not_copy (name_of all g) g 1 it.0 named it.1))
      ]

  shows_there : ShowsClause f all asked (last_id before + 1)
  shows_there = record {
    clause = r.clause;
    is_id = record { from_one = omega arith; last = omega arith };
    clause_is = ap (λ b. option_and_then clause_of (cond b (Some (Answer r.clause r.hints))
        (numbered has_id before (last_id before + 1)))) (eq-eqb (last_id before + 1) (last_id before + 1) refl);
    negated = λ l h. elim (element_of p.first.groups.items asked (opposite l) (r.negated l h)) [
      | inl first ↦ inl (
        group_variable first.0,
        first.2 ∙ first_selector first.0 first.1,
        (first_made first.0 first.1).named,
      )
      | inr copy ↦ inr copy
    ];
    implied = λ m holds_there.
        answer_true implied before r.hints (copied_assignment all m)
        (λ earlier more origin c is reached. copy_given_true all f 1 m c holds_there
        (copy_clause origin c reached).1)
        r.clause searched_there.derived.1 searched_there.derived.0;
  }

  pub shows_clause : ShowsClause f new.entries asked id
  shows_clause = search (arith, answer_last, shows_there)

  pub first_grew : (group : ℕ) → Grew (IsAddedBy f copies group true old.entries) old new
  first_grew =
      silent_grew f p under old new id definability r
      (undecided_answer implied f before r.clause r.hints searched_there
      (λ origin c reached. of_copies 1 origin (copy_clause origin c reached).0))
