-- Entries that are derived one by one are derived by the clauses of the whole log.
use Rattle.std.proofs.Common.{◌≡◌, ℕ, ◌+◌, ◌==◌, ◌&&◌, cond, inl, inr, List, [], ◌∷◌, Some, None, sym, ◌∙◌, ap, subst, arith}
use Rattle.std.specs.Option.{option_and_then}
use Rattle.std.proofs.lemmas.Bool.{cases_Bool}
use Rattle.dq_lits.specs.Literal.{Literal}
use Rattle.dq_lits.specs.Derivation.{IsDerived}
use Rattle.dq_lits.proofs.HeldLiterals.{derived-on}
use Rattle.hint_log.specs.Conditions.{IsId, AreIds, AreLogged}
use Rattle.hint_log.specs.Entries.{Entry}
use Rattle.hint_log.specs.Entries.{Named, Given, Learned, Answer, Round, Begun}
use Rattle.hint_log.specs.Entries.{has_id, last_id, numbered, clause_of, hints_of, origin_of, clause_at, hints_at}
use Rattle.hint_log.specs.Growth.{Each}
use Rattle.hint_log.specs.ProductiveLog.{IsDerivedByHints}
use Rattle.hint_log.specs.Reached.{Reaches, itself, by_hint}
use Rattle.hint_log.proofs.NamedEntries.{clause_known}
use Rattle.interpolants.specs.Replay.{AreDerived}

module _ (stays : (e : Entry) (es : List Entry) (id : ℕ) → IsId es id →
    numbered has_id (e ∷ es) id ≡ numbered has_id es id)
    (reached : (es : List Entry) (id i : ℕ) → AreLogged es → IsId es id → Reaches es id i → IsId es i) where
  -- a line keeps its derivation as an entry is added
  one_more : (e : Entry) (es : List Entry) (clause : List Literal) (hints : List ℕ) → AreIds es hints →
      IsDerived (clause_at es) clause hints →
      IsDerived (clause_at (e ∷ es)) clause hints
  one_more e es clause hints ids derived =
      derived-on (clause_at es) (clause_at (e ∷ es)) clause hints
      (λ hint has. sym (ap (option_and_then clause_of) (stays e es hint (ids hint has)))) derived

  line_here : (e : Entry) (es : List Entry) (c clause : List Literal) (hs hints : List ℕ) → AreIds es hs →
      IsDerived (clause_at es) c hs → Some c ≡ Some clause →
      Some hs ≡ Some hints → IsDerived (clause_at (e ∷ es)) clause hints
  line_here e es c clause hs hints ids derived c_is hs_is =
      let same_c : c ≡ clause = cc in
      let same_h : hs ≡ hints = cc in
      let P : List Literal → Type 0 = λ ls. IsDerived (clause_at (e ∷ es)) ls hints in
      let Q : List ℕ → Type 0 = λ xs. IsDerived (clause_at (e ∷ es)) c xs in
      subst P same_c (subst Q same_h (one_more e es c hs ids derived))

  entry_here : (e : Entry) (es : List Entry) (clause : List Literal) (hints : List ℕ) → AreLogged (e ∷ es) →
      IsDerivedByHints es e →
      option_and_then clause_of (Some e) ≡ Some clause → option_and_then origin_of (Some e) ≡ None →
      Some (hints_of e) ≡ Some hints →
      IsDerived (clause_at (e ∷ es)) clause hints
  entry_here (Named v n) es clause hints logged derived c o h = cc
  entry_here (Given origin c') es clause hints logged derived c o h = cc
  entry_here (Learned c' hs) es clause hints logged derived c o h = search (arith, line_here)
  entry_here (Answer c' hs) es clause hints logged derived c o h = search (arith, line_here)
  entry_here (Round r v j) es clause hints logged derived c o h = cc
  entry_here (Begun live) es clause hints logged derived c o h = cc

  pub each_derived : (entries : List Entry) → AreLogged entries → Each IsDerivedByHints entries → AreDerived entries
  each_derived [] logged each id clause hints c o h = cc
  each_derived (e ∷ es) logged each id clause hints c o h =
      elim (cases_Bool (has_id e && (id == last_id es + 1))) [
        | inl here ↦ search (arith, entry_here)
        | inr later ↦
            let is : numbered has_id (e ∷ es) id ≡ numbered has_id es id =
            ap (λ b. cond b (Some e) (numbered has_id es id)) later in
            let clause_is : clause_at es id ≡ Some clause = sym (ap (option_and_then clause_of) is) ∙ c in
            let hints_are : hints_at es id ≡ Some hints = sym (ap (option_and_then (λ x. Some (hints_of x))) is) ∙ h in
            let is_id = clause_known es id clause clause_is in
            one_more e es clause hints (λ hint has. reached es id hint logged.1 is_id
            (by_hint id hint hints itself hints_are has))
            (each_derived es logged.1 each.1 id clause hints clause_is
            (sym (ap (option_and_then origin_of) is) ∙ o) hints_are)
      ]
