-- What holds of the clauses that an answer rests on.
use Rattle.std.proofs.Common.{◌≡◌, ℕ, ◌+◌, ◌≤◌, ◌==◌, Bool, true, false, cond, ◌&&◌, List, [], ◌∷◌, ◌++◌, Option, Some, refl, sym, ◌∙◌, ap, arith, append_assoc}
use Rattle.std.specs.List.{Contains}
use Rattle.std.specs.Option.{option_and_then}
use Rattle.std.proofs.lemmas.Bool.{eqb-true, ne_eqb}
use Rattle.std.proofs.lemmas.List.Elements.{Contains-get_or}
use Rattle.dq_lits.specs.Literal.{Assignment, Literal, clause_true}
use Rattle.dq_lits.specs.Derivation.{IsDerived}
use Rattle.hint_log.specs.Entries.{has_id, count, last_id, numbered, clause_of, hints_of, clause_at, hints_at, name_of, Entry, Named, Given, Learned, Answer, Round, Begun}
use Rattle.hint_log.specs.Reached.{Reaches, itself, by_hint}
use Rattle.hint_log.specs.declared.names.Name.{Name}
use Rattle.hint_log.specs.declared.origins.Origin.{Origin}
use Rattle.hint_log.specs.Growth.{Each}
use Rattle.hint_log.specs.Conditions.{MayFollow}
use Rattle.hint_log.specs.ProductiveLog.{IsDerivedByHints}
use Rattle.hint_log.specs.Deciding.{ReachesGiven}
use Rattle.log_laws.proofs.Implied.{LinesAreImplied, true_by_hints}
use Rattle.log_laws.proofs.LargerLogs.{count_grown}

-- an id that hints reach
pub record IsReached (entries : List Entry) (hints : List ℕ) (id : ℕ) : Type 0 where
  pub hint : ℕ
  pub hinted : Contains hints hint
  pub reached : Reaches entries hint id

-- an id keeps its entry
pub numbered_kept : (more old : List Entry) (id : ℕ) → id ≤ last_id old →
    numbered has_id (more ++ old) id ≡ numbered has_id old id
numbered_kept [] old id h = refl
numbered_kept (e ∷ more) old id h = search (arith, (numbered_kept more old id h), count_grown, ne_eqb)

-- a variable keeps its name
pub name_stays : (more old : List Entry) (v : ℕ) (n : Name) → Each MayFollow (more ++ old) → name_of old v ≡ Some n →
    name_of (more ++ old) v ≡ Some n
name_stays [] old v n lawful is = is
name_stays (Named w m ∷ more) old v n lawful is = search (arith, (name_stays more old v n lawful.1 is), eqb-true)
name_stays (_ ∷ more) old v n lawful is = name_stays more old v n lawful.1 is

module _ (implied : LinesAreImplied) (all : List Entry) (first : List ℕ) (a : Assignment)
    (given_true : (earlier more : List Entry) (origin : Origin) (c : List Literal) →
    all ≡ more ++ Given origin c ∷ earlier →
    ReachesGiven all first origin c → clause_true a c ≡ true) where
  -- each reached id has a true clause
  abbrev AllReachedTrue : List Entry → Type 0
  AllReachedTrue es = (id : ℕ) (c : List Literal) → IsReached all first id → clause_at es id ≡ Some c →
      clause_true a c ≡ true

  abbrev At : Entry → List Entry → ℕ → Option Entry
  At e es id = cond (has_id e && (id == count has_id es + 1)) (Some e) (numbered has_id es id)

  entry_here : (e : Entry) (es more : List Entry) (id : ℕ) → all ≡ more ++ e ∷ es → has_id e ≡ true →
      (id == count has_id es + 1) ≡ true → numbered has_id all id ≡ Some e
  entry_here e es more id is has same = search (arith, eqb-true, numbered_kept)

  by_hints : (e : Entry) (es more : List Entry) (id : ℕ) (c : List Literal) (hints : List ℕ) → all ≡ more ++ e ∷ es →
      has_id e ≡ true → hints_of e ≡ hints →
      (id == count has_id es + 1) ≡ true → IsReached all first id → AllReachedTrue es →
      IsDerived (clause_at es) c hints → clause_true a c ≡ true
  by_hints e es more id c hints is has are same reached before derived =
      let here = entry_here e es more id is has same in
      let at : hints_at all id ≡ Some hints = ap (option_and_then (λ x. Some (hints_of x))) here ∙ ap Some are in
      true_by_hints implied (clause_at es) c hints derived a (λ k d below d' h.
      before (_) d' (record {
        hint = reached.hint;
        hinted = reached.hinted;
        reached = search (arith, Contains-get_or, by_hint);
      }) h)

  reached_true : (es more : List Entry) → all ≡ more ++ es → Each IsDerivedByHints es → AllReachedTrue es
  reached_true [] more is derived id c reached h = cc
  reached_true (Named v n ∷ es) more is derived id c reached h =
      search (arith, (reached_true es (more ++ Named v n ∷ [])), append_assoc)
  reached_true (Round row values j ∷ es) more is derived id c reached h =
      search (arith, (reached_true es (more ++ Round row values j ∷ [])), append_assoc)
  reached_true (Begun live ∷ es) more is derived id c reached h =
      search (arith, (reached_true es (more ++ Begun live ∷ [])), append_assoc)
  reached_true (Given origin d ∷ es) more is derived id c reached h =
      by_bit (reached_true es (more ++ Given origin d ∷ []) (is ∙ sym (append_assoc more (Given origin d ∷ []) es))
      derived.1) (id == count has_id es + 1) refl h where
        by_bit : AllReachedTrue es → (b : Bool) → (id == count has_id es + 1) ≡ b →
            option_and_then clause_of (cond b (Some (Given origin d)) (numbered has_id es id)) ≡ Some c →
            clause_true a c ≡ true
        by_bit before true e h = search (arith, entry_here)
        by_bit before false e h = before id c reached h
  reached_true (Learned d hints ∷ es) more is derived id c reached h =
      by_bit (reached_true es (more ++ Learned d hints ∷ [])
      (is ∙ sym (append_assoc more (Learned d hints ∷ []) es)) derived.1) (id == count has_id es + 1) refl h where
        by_bit : AllReachedTrue es → (b : Bool) → (id == count has_id es + 1) ≡ b →
            option_and_then clause_of (cond b (Some (Learned d hints)) (numbered has_id es id)) ≡ Some c →
            clause_true a c ≡ true
        by_bit before true e h = search (arith, by_hints)
        by_bit before false e h = before id c reached h
  reached_true (Answer d hints ∷ es) more is derived id c reached h =
      by_bit (reached_true es (more ++ Answer d hints ∷ []) (is ∙ sym (append_assoc more (Answer d hints ∷ []) es))
      derived.1) (id == count has_id es + 1) refl h where
        by_bit : AllReachedTrue es → (b : Bool) → (id == count has_id es + 1) ≡ b →
            option_and_then clause_of (cond b (Some (Answer d hints)) (numbered has_id es id)) ≡ Some c →
            clause_true a c ≡ true
        by_bit before true e h = search (arith, by_hints)
        by_bit before false e h = before id c reached h

  -- and so has the answer
  pub answer_true : (clause : List Literal) → Each IsDerivedByHints all → IsDerived (clause_at all) clause first →
      clause_true a clause ≡ true
  answer_true clause derived here =
      true_by_hints implied (clause_at all) clause first here a (λ k d below c h.
      reached_true all [] refl derived _ c (record {
        hint = _;
        hinted = Contains-get_or first k d below;
        reached = search (arith, itself);
      }) h)
