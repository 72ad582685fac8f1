-- Where the whole trail is taken back, the clause that is noted is derived by the hints, and keeps
-- the selectors of what they hint.
use Rattle.std.proofs.Common.{◌≡◌, ℕ, Bool, true, false, inl, inr, List, [], map, Option, Some, None, IsSome, Contains, refl, sym, ◌∙◌, ap, arith}
use Rattle.std.proofs.lemmas.Bool.{false≢true}
use Rattle.dq_lits.specs.Literal.{Literal, variable_of, opposite}
use Rattle.dq_lits.specs.Derivation.{holds, is_tautology, IsDerived}
use Rattle.dq_lits.proofs.HeldLiterals.{derived-on, holds-map}
use Rattle.dq_lits.proofs.SignedLiterals.{opposite-opposite}
use Rattle.hint_log.specs.Entries.{Entry}
use Rattle.hint_log.specs.Entries.{clause_at}
use Rattle.hint_log.specs.Naming.{is_selector}
use Rattle.oracle.specs.Fit.{live_in, HoldsHintedSelectors}
use Rattle.learning_trail.specs.Analyses.{IsAnalysis}
use Rattle.dq_lits.proofs.LiteralValues.{no_tautology}
use Rattle.learning_trail.specs.Resting.{HeldFit, AreAwake}
use Rattle.learning_trail.proofs.LeadingHints.{leads_line}
use Rattle.learning_trail.proofs.RestingClauses.{awake_same}

module _ (held : List (List Literal)) (resting : List Bool) (variables : ℕ) (entries : List Entry)
    (assumptions clause : List Literal) (marks : List Bool) (hints : List ℕ)
    (fit : HeldFit held resting variables entries) (awake : AreAwake resting assumptions)
    (active : (l : Literal) → holds clause l ≡ true → is_selector entries (variable_of l) ≡ true →
    holds assumptions (opposite l) ≡ true)
    (analysis : IsAnalysis entries (live_in held) [] (map opposite clause) marks hints) where
  in_kept : (l : Literal) → holds clause l ≡ true → holds (map opposite clause) (opposite l) ≡ true
  in_kept l h = holds-map clause l ∙ h

  of_kept : (t : Literal) → holds (map opposite clause) t ≡ true → holds clause (opposite t) ≡ true
  of_kept t h = sym (holds-map clause (opposite t)) ∙ ap (holds (map opposite clause)) (opposite-opposite t) ∙ h

  plain_clause : is_tautology clause ≡ false
  plain_clause = no_tautology clause (λ l h o.
      let g = (analysis.gone (opposite l) (in_kept l h)).1 in
      false≢true (sym g ∙ in_kept (opposite l) o))

  -- the negated selectors of what is hinted
  tied_here : (h : ℕ) → Contains hints h → (c : List Literal) → live_in held h ≡ Some c → (l : Literal) →
      holds c l ≡ true → is_selector entries (variable_of l) ≡ true → holds clause l ≡ true
  tied_here h has c at l m sel = elim (analysis.tied h c l has at m sel) [
    | inl k ↦ ap (holds clause) (sym (opposite-opposite l)) ∙ of_kept (opposite l) k
    | inr t ↦ absurd (false≢true t.0)
  ]

  -- what is hinted is the log's
  hint_same : (h : ℕ) → Contains hints h → live_in held h ≡ clause_at entries h
  hint_same h has = by (live_in held h) refl (analysis.ids h has)
    where
      by : (o : Option (List Literal)) → live_in held h ≡ o → IsSome o → live_in held h ≡ clause_at entries h
      by None e n = absurd (false≢true n)
      by (Some c) e n = search (arith, awake_same, tied_here)

  pub concluded_derived : IsDerived (clause_at entries) clause hints
  concluded_derived = derived-on (live_in held) (clause_at entries) clause hints hint_same
      (leads_line (live_in held) marks [] (map opposite clause) clause hints analysis.leads of_kept
      (λ t on m. absurd (false≢true on)) (λ l h. inl (in_kept l h)) plain_clause)

  pub concluded_tied : HoldsHintedSelectors entries clause hints
  concluded_tied h has c at l m sel = tied_here h has c (hint_same h has ∙ at) l m sel
