-- What an answer rests on.
use Rattle.std.proofs.Common.{◌≡◌, ℕ, ◌+◌, ◌≤◌, ◌⊎◌, inl, inr, true, List, [], ◌∷◌, Option, None, Some, refl, sym, ◌∙◌, ap, subst, arith}
use Rattle.std.specs.List.{Contains, cons_option}
use Rattle.std.specs.Option.{option_map, option_and_then}
use Rattle.std.proofs.lemmas.Bool.{eq-eqb, cond-true}
use Rattle.std.proofs.lemmas.List.Elements.{All-head, All-tail}
use Rattle.dq_lits.specs.Derivation.{is_empty}
use Rattle.dq_lits.specs.Literal.{Literal, negative, variable_of, on_variable}
use Rattle.hint_log.specs.Entries.{has_id, last_id, numbered, hints_of, hints_at, name_of, Entry, Given, Answer}
use Rattle.hint_log.specs.Reached.{Reaches, itself, by_hint}
use Rattle.hint_log.specs.declared.names.Name.TheVariants.{Selector}
use Rattle.hint_log.specs.declared.origins.Origin.{Origin}
use Rattle.hint_log.specs.Growth.{Each}
use Rattle.cert_export.specs.Lines.{clause_or_empty, line_clause}
use Rattle.cert_export.specs.Renaming.{Renaming, renamed_clause, IsPartOf}
use Rattle.hint_log.specs.Conditions.{MayFollow}
use Rattle.hint_log.specs.Deciding.{ReachesGiven, AreNegatedSelectors}
use Rattle.log_laws.proofs.ReachedClauses.{numbered_kept}
use Rattle.cert_export.proofs.ReachedLines.{hints_below}

module _ (earlier : List Entry) (clause : List Literal) (hints : List ℕ)
    (lawful : Each MayFollow (Answer clause hints ∷ earlier)) where
  abbrev all : List Entry
  all = Answer clause hints ∷ earlier

  abbrev last : ℕ
  last = last_id all

  pub answer_there : numbered has_id all last ≡ Some (Answer clause hints)
  answer_there = search (arith, cond-true, eq-eqb)

  -- what the answer reaches is reached by its hints
  abbrev IsBelow : ℕ → Type 0
  IsBelow h = (hint : ℕ) × Contains hints hint × Reaches earlier hint h × (h ≤ last_id earlier)

  pub reached_by_hint : (h : ℕ) → Reaches all last h → (h ≡ last) ⊎ IsBelow h
  reached_by_hint h itself = inl refl
  reached_by_hint h (by_hint at _ hs rest is inside) = elim (reached_by_hint at rest) [
    | inl same ↦ (
        let own : hints_at all last ≡ Some hints = ap (option_and_then (λ e. Some (hints_of e))) answer_there in
        let both : Some hints ≡ Some hs = sym own ∙ ap (hints_at all) (sym same) ∙ is in
        let same_hints : hints ≡ hs = cc in
        let n : last ≡ last_id earlier + 1 = refl in
        inr (
          h,
          subst (λ xs. Contains xs h) (sym same_hints) inside,
          itself,
          omega (arith, (hints_below all lawful at h hs is inside).1, same, n),
        ))
    | inr below ↦ (
        let kept = numbered_kept (Answer clause hints ∷ []) earlier at below.3 in
        let is' : hints_at earlier at ≡ Some hs = ap (option_and_then (λ e. Some (hints_of e))) (sym kept) ∙ is in
        inr (
          below.0,
          below.1,
          by_hint at h hs below.2 is' inside,
          omega (arith, (hints_below all lawful at h hs is inside).1, below.3),
        ))
  ]

  -- the given clauses that the answer reaches
  pub reached_given : (h : ℕ) (origin : Origin) (c : List Literal) → Reaches all last h →
      numbered has_id all h ≡ Some (Given origin c) → ReachesGiven earlier hints origin c
  reached_given h origin c reached at = search (arith, reached_by_hint, answer_there, numbered_kept)

  -- a clause of selectors is exported as the empty one
  pub selectors_dropped : (r : Renaming) → ((v : ℕ) → name_of earlier v ≡ Some (Selector v) → r v ≡ None) →
      (c : List Literal) → AreNegatedSelectors earlier c → renamed_clause r c ≡ []
  selectors_dropped r none [] h = refl
  selectors_dropped r none (l ∷ ls) h =
      let P : Literal → Type 0 = λ q. (q ≡ negative (variable_of q)) ×
      (name_of earlier (variable_of q) ≡ Some (Selector (variable_of q))) in
      let here = All-head P l ls h in
      ap (λ o. cons_option (option_map (λ w. on_variable w l) o) (renamed_clause r ls)) (none (variable_of l) here.1)
      ∙ selectors_dropped r none ls (All-tail P l ls h)

-- an answer that ends the entries
module _ (entries earlier : List Entry) (clause : List Literal) (hints : List ℕ) (id : ℕ)
    (lawful : Each MayFollow entries)
    (answered : entries ≡ Answer clause hints ∷ earlier) (is_last : id ≡ last_id entries) where
  lawful' : Each MayFollow (Answer clause hints ∷ earlier)
  lawful' = subst (Each MayFollow) answered lawful

  pub answer_at : numbered has_id entries id ≡ Some (Answer clause hints)
  answer_at = search (arith, answer_there, lawful')

  -- a given clause that the answer reaches is reached by its hints
  pub reached_here : (h : ℕ) (origin : Origin) (c : List Literal) → Reaches entries id h →
      numbered has_id entries h ≡ Some (Given origin c) → ReachesGiven earlier hints origin c
  reached_here h origin c reached at = search (arith, reached_given, lawful')

  -- its clause is exported as the empty one
  pub answer_empty : (r target : Renaming) → IsPartOf r target → ((v : ℕ) → name_of entries v ≡ Some (Selector v) →
      target v ≡ None) → AreNegatedSelectors earlier clause → is_empty (line_clause r entries id) ≡ true
  answer_empty r target part unnamed selectors =
      ap (λ o. is_empty (renamed_clause r (clause_or_empty o))) answer_at
      ∙ ap is_empty (selectors_dropped earlier clause hints lawful' r no_selector clause selectors) where
        no_selector : (v : ℕ) → name_of earlier v ≡ Some (Selector v) → r v ≡ None
        no_selector v named = by_option (r v) refl where
          by_option : (o : Option ℕ) → r v ≡ o → o ≡ None
          by_option None is = refl
          by_option (Some x) is = search arith
