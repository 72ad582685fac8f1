-- Lines over a renamed base are derived.
use Rattle.std.proofs.Common.{◌≡◌, ◌≢◌, ℕ, zero, suc, ◌<◌, ◌==◌, Bool, true, inl, inr, List, [], ◌∷◌, ◌++◌, map, length, get_or, None, Some, refl, sym, ◌∙◌, ap, subst, arith, append_assoc}
use Rattle.std.specs.List.{All, Contains}
use Rattle.std.specs.Option.{option_map, option_and_then}
use Rattle.std.proofs.lemmas.Bool.{false≢true, eq-eqb, ne_eqb, cond-true, cond-false}
use Rattle.std.proofs.lemmas.List.Elements.{Contains-get_or}
use Rattle.dq_lits.specs.Literal.{Literal, opposite}
use Rattle.dq_lits.specs.Derivation.{LiveClauses, with_clause, unfinished, is_empty, line_fault, fault_of_step, steps_fault, IsDerived}
use Rattle.hint_log.specs.Conditions.{IsId, AreIds, MayFollow}
use Rattle.hint_log.specs.Entries.{has_id, numbered, clause_of, clause_at, hints_of, Entry, Given, Learned, Answer}
use Rattle.hint_log.specs.declared.origins.Origin.{Origin}
use Rattle.hint_log.specs.Growth.{Each}
use Rattle.cert_export.specs.Renaming.{Renaming, IsInjective, renamed_clause, cut_hints, IsRenamedAt}
use Rattle.cert_export.specs.Lines.{clause_or_empty, hints_or_none, number_by, new_number, renamed_clauses, line_clause, line_step, line_steps}
use Rattle.cert_export.specs.LineOrder.{IsBaseId, IsHintable, IsNextLine, AreLines, AreFinished, IsRenamedBase}
use Rattle.hint_log.specs.ProductiveLog.{IsDerivedByHints}
use Rattle.log_laws.proofs.ReachedClauses.{numbered_kept}
use Rattle.log_laws.proofs.Found.{each_at, split_at}
use Rattle.cert_export.proofs.CutHints.{cut_by_ids}
use Rattle.cert_export.proofs.ReachedLines.{entry_at, there_is}
use Rattle.cert_export.proofs.Renamings.{renamed_lines_are_derived}

-- an id has a clause
pub clause_there : (es : List Entry) (h : ℕ) → IsId es h → (c : List Literal) × (clause_at es h ≡ Some c)
clause_there es h id = let t = there_is es h id.from_one id.last in by_entry t.0 t.1 (entry_at es h t.0 t.1).has where
  by_entry : (e : Entry) → numbered has_id es h ≡ Some e → has_id e ≡ true →
      (c : List Literal) × (clause_at es h ≡ Some c)
  by_entry (Given origin c) at has = (c, ap (option_and_then clause_of) at)
  by_entry (Learned c hints) at has = (c, ap (option_and_then clause_of) at)
  by_entry (Answer c hints) at has = (c, ap (option_and_then clause_of) at)
  by_entry _ at has = absurd (false≢true has)

module _ (r : Renaming) (base_id : Origin → ℕ) (usable : Origin → List Literal → Type 0) (first : LiveClauses)
    (base : ℕ) (all : List Entry) (number : ℕ → ℕ)
    (injective : IsInjective r) (lawful : Each MayFollow all) (derived : Each IsDerivedByHints all)
    (right : IsRenamedBase r base_id usable first base all) where
  abbrev to : ℕ → ℕ
  to id = new_number base_id all number id

  clause_kept : (es more : List Entry) (e : Entry) (h : ℕ) (c : List Literal) → all ≡ more ++ e ∷ es → IsId es h →
      clause_at es h ≡ Some c → clause_at all h ≡ Some c
  clause_kept es more e h c is id there = search (arith, append_assoc, numbered_kept)

  -- the clauses that lines may hint
  abbrev IsStocked : LiveClauses → List ℕ → Type 0
  IsStocked live done = (h : ℕ) → IsHintable usable all done h → (c : List Literal) → clause_at all h ≡ Some c →
      live (to h) ≡ Some (renamed_clause r c)

  of_base : (h : ℕ) (i : IsBaseId usable all h) → to h ≡ base_id i.0
  of_base h i = ap (number_by base_id (number h)) i.2

  base_clause : (h : ℕ) (i : IsBaseId usable all h) (c : List Literal) → clause_at all h ≡ Some c → i.1 ≡ c
  base_clause h i c at = let same : Some i.1 ≡ Some c = sym (ap (option_and_then clause_of) i.2) ∙ at in cc

  stocked : IsStocked first []
  stocked h ready c at = search (arith, of_base, base_clause)

  line_right : (live : LiveClauses) (done : List ℕ) (id : ℕ) → IsStocked live done →
      IsNextLine usable all number base done id →
      line_fault live (line_clause r all id) (line_step r base_id all number id).hints ≡ None
  line_right live done id stock next = elim next.derived [
    | inl learned ↦ by_entry (Learned next.clause next.hints) learned refl refl
        (λ more es is. (
          each_at IsDerivedByHints more es (Learned next.clause next.hints)
              (subst (Each IsDerivedByHints) is derived),
          (each_at MayFollow more es (Learned next.clause next.hints)
              (subst (Each MayFollow) is lawful)).1,
        ))
    | inr answer ↦ by_entry (Answer next.clause next.hints) answer refl refl
        (λ more es is. (
          each_at IsDerivedByHints more es (Answer next.clause next.hints)
              (subst (Each IsDerivedByHints) is derived),
          (each_at MayFollow more es (Answer next.clause next.hints)
              (subst (Each MayFollow) is lawful)).1,
        ))
  ] where
    by_entry : (e : Entry) → numbered has_id all id ≡ Some e → clause_or_empty (Some e) ≡ next.clause →
        hints_of e ≡ next.hints →
        ((more es : List Entry) → all ≡ more ++ e ∷ es → IsDerived
        (clause_at es) next.clause next.hints × AreIds es next.hints) →
        line_fault live (line_clause r all id) (line_step r base_id all number id).hints ≡ None
    by_entry e at clause hints facts =
        let place = split_at all id e at in
        let fact = facts place.0 place.1 place.2 in
        let renamed : All (IsRenamedAt r to (clause_at place.1) live) next.hints = λ k d below c there.
        let inside = Contains-get_or next.hints k d below in
        let h = get_or next.hints k d in
        stock h (next.ready k d below) c (clause_kept place.1 place.0 e h c place.2 (fact.1 h inside) there) in
        let line = renamed_lines_are_derived r to (clause_at place.1) live injective next.clause next.hints renamed
        fact.0 in
        let same_clause : line_clause r all id ≡ renamed_clause r next.clause =
        ap (λ o. renamed_clause r (clause_or_empty o)) at ∙ ap (renamed_clause r) clause in
        let same_hints : hints_or_none (numbered has_id all id) ≡ next.hints = ap hints_or_none at ∙ hints in
        let cut : line_fault live (line_clause r all id) (cut_hints live (map opposite (line_clause r all id))
        (map to (hints_or_none (numbered has_id all id)))) ≡ None =
        subst (λ hs. line_fault live (line_clause r all id) (cut_hints live (map opposite (line_clause r all id))
        (map to hs)) ≡ None) (sym same_hints)
        (subst (λ ls. line_fault live ls (cut_hints live (map opposite ls) (map to next.hints)) ≡ None)
        (sym same_clause) line) in
        let own : All (λ h. live (to h) ≡ renamed_clauses r all h) (hints_or_none (numbered has_id all id)) =
        subst (All (λ h. live (to h) ≡ renamed_clauses r all h)) (sym same_hints) (λ k d below.
        let h = get_or next.hints k d in
        let inside = Contains-get_or next.hints k d below in
        let there = clause_there place.1 h (fact.1 h inside) in
        let kept = clause_kept place.1 place.0 e h there.0 place.2 (fact.1 h inside) there.1 in
        stock h (next.ready k d below) there.0 kept ∙ ap (option_map (renamed_clause r)) (sym kept)) in
        subst (λ hs. line_fault live (line_clause r all id) hs ≡ None)
        (cut_by_ids to live (renamed_clauses r all) (hints_or_none (numbered has_id all id)) own
        (map opposite (line_clause r all id))) cut

  other_id : (live : LiveClauses) (n : ℕ) (clause : List Literal) (h : ℕ) → h ≢ n → with_clause live n clause h ≡ live h
  other_id live n clause h apart = cond-false (h == n) (Some clause) (live h) (ne_eqb h n apart)

  new_of : (id : ℕ) (done : List ℕ) → IsNextLine usable all number base done id → to id ≡ number id
  new_of id done next = search arith

  clause_of_next : (id : ℕ) (done : List ℕ) (c : List Literal) → IsNextLine usable all number base done id →
      clause_at all id ≡ Some c → line_clause r all id ≡ renamed_clause r c
  clause_of_next id done c next at = search arith

  -- the ids of lines have the numbers of lines
  abbrev HaveNumbers : List ℕ → Type 0
  HaveNumbers done = (h : ℕ) → Contains done h → to h ≡ number h

  with_line : (live : LiveClauses) (done : List ℕ) (id : ℕ) → HaveNumbers done → IsStocked live done →
      IsNextLine usable all number base done id → IsStocked (with_clause live (number id) (line_clause r all id))
      (id ∷ done)
  with_line live done id lines stock next h ready c at = elim ready [
    | inl i ↦ (
        let new = of_base h i in
        let apart : to h ≢ number id = λ e. omega (arith, new, (right h i.0 i.1 i.2 i.3).1, next.behind, e) in
        other_id live (number id) (line_clause r all id) (to h) apart ∙ stock h (inl i) c at)
    | inr inside ↦ by_place inside
  ] where
    by_place : Contains (id ∷ done) h → with_clause live (number id) (line_clause r all id) (to h) ≡ Some
        (renamed_clause r c)
    by_place (zero, below, e) =
        let at' : clause_at all id ≡ Some c = ap (clause_at all) e ∙ at in
        let new : to h ≡ number id = ap to (sym e) ∙ new_of id done next in
        cond-true (to h == number id) (Some (line_clause r all id)) (live (to h)) (eq-eqb (to h) (number id) new)
        ∙ ap Some (clause_of_next id done c next at')
    by_place (suc k, below, e) =
        let inside : Contains done h = (k, (let b : k < length done = omega arith in b), e) in
        let apart : to h ≢ number id = λ q. next.fresh h inside (sym (lines h inside) ∙ q) in
        other_id live (number id) (line_clause r all id) (to h) apart ∙ stock h (inr inside) c at

  more_lines : (done : List ℕ) (id : ℕ) → HaveNumbers done → IsNextLine usable all number base done id →
      HaveNumbers (id ∷ done)
  more_lines done id lines next h (zero, below, e) = ap to (sym e) ∙ new_of id done next ∙ ap number e
  more_lines done id lines next h (suc k, below, e) = lines h (k, (let b : k < length done = omega arith in b), e)

  all_right : (ids : List ℕ) (live : LiveClauses) (done : List ℕ) (finished : Bool) → HaveNumbers done →
      IsStocked live done → AreLines usable all number base done ids → AreFinished r all finished ids →
      steps_fault finished live (line_steps r base_id all number ids) ≡ None
  all_right [] live done finished lines stock order ends = cond-true finished None (Some unfinished) ends
  all_right (id ∷ ids) live done finished lines stock order ends =
      let rest = all_right ids (with_clause live (number id) (line_clause r all id)) (id ∷ done)
      (is_empty (line_clause r all id)) (more_lines done id lines order.0)
      (with_line live done id lines stock order.0) order.1 ends in
      ap (λ o. fault_of_step o (number id) (steps_fault (is_empty (line_clause r all id))
      (with_clause live (number id) (line_clause r all id)) (line_steps r base_id all number ids)))
      (line_right live done id stock order.0)
      ∙ rest

pub lines_are_derived : (r : Renaming) (base_id : Origin → ℕ) (usable : Origin → List Literal → Type 0)
    (live : LiveClauses) (base : ℕ) (entries : List Entry) (number : ℕ → ℕ) (ids : List ℕ) →
    IsInjective r → Each MayFollow entries → Each IsDerivedByHints entries →
    IsRenamedBase r base_id usable live base entries →
    AreLines usable entries number base [] ids → (finished : Bool) → AreFinished r entries finished ids →
    steps_fault finished live (line_steps r base_id entries number ids) ≡ None
lines_are_derived r base_id usable live base entries number ids injective lawful derived right order finished ends =
    all_right r base_id usable live base entries number injective lawful derived right ids live [] finished no_lines
    (stocked r base_id usable live base entries number injective lawful derived right) order ends where
      no_lines : (h : ℕ) → Contains [] h → new_number base_id entries number h ≡ number h
      no_lines h (k, below, e) = absurd (omega arith)
