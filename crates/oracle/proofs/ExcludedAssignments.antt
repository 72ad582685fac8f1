-- An answer excludes every assignment.
use Rattle.std.proofs.Common.{◌≡◌, ℕ, ◌+◌, ◌==◌, Bool, true, false, not, cond, ◌||◌, ◌&&◌, inl, inr, List, [], ◌∷◌, Option, None, Some, IsSome, All, Contains, refl, sym, ◌∙◌, ap, subst}
use Rattle.std.specs.Option.{option_and_then}
use Rattle.std.proofs.lemmas.Bool.{cases_Bool, cases_eq, eq-eqb, ne_eqb, false≢true, or_left, or_cases, and_from}
use Rattle.list_laws.proofs.Members.{contains_later, contains_first}
use Rattle.dq_lits.specs.Literal.{Assignment, Literal, positive, negative, variable_of, is_negative, opposite, same_literal, literal_true, clause_true}
use Rattle.dq_lits.specs.Derivation.{LiveClauses, MakesTrue, holds, IsDerived}
use Rattle.dq_lits.proofs.Truth.{same_literal-sound}
use Rattle.dq_lits.proofs.HeldLiterals.{held_of_all, holds_here, holds_later}
use Rattle.dq_lits.proofs.LiftedExpansion.{literal_true-agree}
use Rattle.hint_log.specs.Entries.{Entry, Named, Given, Learned, Answer, ProofLog, clause_at, clause_of, name_of, last_id, has_id, numbered}
use Rattle.hint_log.specs.declared.names.Name.{Name}
use Rattle.hint_log.specs.declared.names.Name.TheVariants.{Selector}
use Rattle.hint_log.specs.Conditions.{MayFollow}
use Rattle.hint_log.specs.Growth.{Each}
use Rattle.hint_log.specs.Naming.{is_selector, is_selector_name}
use Rattle.hint_log.specs.ProductiveLog.{IsDerivedByHints}
use Rattle.oracle.specs.Calls.{IsRefutedUnder}
use Rattle.oracle.specs.Searched.{IsSearched, IsGivenToGroup, IsOfGroup, MakesActiveTrue}

-- assignments that agree on a clause
clause_same : (m n : Assignment) (c : List Literal) → ((l : Literal) → holds c l ≡ true →
    literal_true m l ≡ literal_true n l) → clause_true m c ≡ clause_true n c
clause_same m n [] h = refl
clause_same m n (x ∷ c) h =
    ap (λ b. b || clause_true m c) (h x (holds_here x c)) ∙ ap (λ b. literal_true n x || b)
    (clause_same m n c (λ l k. h l (holds_later x c l k)))

clause_false : (m : Assignment) (c : List Literal) → ((l : Literal) → holds c l ≡ true → literal_true m l ≡ false) →
    clause_true m c ≡ false
clause_false m [] h = refl
clause_false m (x ∷ c) h = ap (λ b. b || clause_true m c) (h x (holds_here x c)) ∙ clause_false m c
    (λ l k. h l (holds_later x c l k))

-- what the ids stand for, as an entry is added
module _ (es : List Entry) (e : Entry) (c : List Literal) (has : has_id e ≡ true) (is : clause_of e ≡ Some c) where
  pub one_more_true : (m : Assignment) → MakesTrue m (clause_at es) → clause_true m c ≡ true →
      MakesTrue m (clause_at (e ∷ es))
  one_more_true m before here id d at = elim (cases_eq id (last_id es + 1)) [
    | inl h ↦
        let new : clause_at (e ∷ es) id ≡ Some c =
        ap (λ b. option_and_then clause_of (cond b (Some e) (numbered has_id es id)))
        (and_from (has_id e) (id == last_id es + 1) has (eq-eqb id (last_id es + 1) h)) ∙ is in
        let s : Some c ≡ Some d = sym new ∙ at in
        let q : c ≡ d = cc in
        ap (clause_true m) (sym q) ∙ here
    | inr n ↦
        let old : clause_at (e ∷ es) id ≡ clause_at es id =
        ap (λ b. option_and_then clause_of (cond (b && (id == last_id es + 1)) (Some e) (numbered has_id es id))) has
        ∙ ap (λ b. option_and_then clause_of (cond (true && b) (Some e) (numbered has_id es id)))
        (ne_eqb id (last_id es + 1) n) in
        before id d (sym old ∙ at)
  ]

-- names stay
name_step : (es : List Entry) (e : Entry) → MayFollow es e → (v : ℕ) (n : Name) → name_of es v ≡ Some n →
    name_of (e ∷ es) v ≡ Some n
name_step es (Named w name) lawful v n h =
    elim (cases_eq v w) [
      | inl e ↦ let k : None ≡ Some n = sym lawful.unnamed ∙ ap (name_of es) (sym e) ∙ h in cc
      | inr other ↦ ap (λ b. cond b (Some name) (name_of es v)) (ne_eqb v w other) ∙ h
    ]
name_step es _ lawful v n h = h

module _ (all : List Entry) (assumptions : List Literal) (m : Assignment) where
  -- selectors that aren't switched on
  abbrev pub off : ℕ → Bool
  off v = is_selector all v && not (holds assumptions (positive v))

  abbrev pub switched_off : Assignment
  switched_off v = cond (off v) false (m v)

  on_same : (v : ℕ) → off v ≡ false → switched_off v ≡ m v
  on_same v h = ap (λ b. cond b false (m v)) h

  plain_same : (v : ℕ) → is_selector all v ≡ false → switched_off v ≡ m v
  plain_same v h = on_same v (ap (λ b. b && not (holds assumptions (positive v))) h)

  held_same : (v : ℕ) → holds assumptions (positive v) ≡ true → switched_off v ≡ m v
  held_same v h = on_same v (ap (λ b. is_selector all v && not b) h ∙ and_false (is_selector all v))
    where
      and_false : (b : Bool) → (b && false) ≡ false
      and_false true = refl
      and_false false = refl

  off_false : (v : ℕ) → is_selector all v ≡ true → holds assumptions (positive v) ≡ false → switched_off v ≡ false
  off_false v s h = ap (λ b. cond b false (m v)) (and_from (is_selector all v) (not (holds assumptions (positive v))) s
      (ap not h))

  abbrev pub Keeps : List Entry → Type 0
  Keeps es = (v : ℕ) (n : Name) → name_of es v ≡ Some n → name_of all v ≡ Some n

  plain_stays : (es : List Entry) → Keeps es → (v : ℕ) → IsSome (name_of es v) → is_selector es v ≡ false →
      is_selector all v ≡ false
  plain_stays es keeps v some plain = by (name_of es v) refl some
    where
      by : (o : Option Name) → name_of es v ≡ o → IsSome o → is_selector all v ≡ false
      by None e none = absurd (false≢true none)
      by (Some n) e s = ap is_selector_name (keeps v n e) ∙ sym (ap is_selector_name e) ∙ plain

  given_true : (es : List Entry) → Keeps es → (o : List Literal) → IsOfGroup es o
      → ((group : ℕ) (rest : List Literal) → o ≡ negative group ∷ rest → holds assumptions (positive group) ≡ true →
      clause_true m (negative group ∷ rest) ≡ true)
      → clause_true switched_off o ≡ true
  given_true es keeps c g active =
      ap (clause_true switched_off) g.clause_is ∙ elim (cases_Bool (holds assumptions (positive g.group))) [
        | inl on ↦
            clause_same switched_off m (negative g.group ∷ g.rest)
            (λ l h. literal_true-agree switched_off m l (elim (or_cases (same_literal l (negative g.group))
            (holds g.rest l) h) [
              | inl e ↦
                  let v : variable_of l ≡ g.group = ap variable_of (same_literal-sound l (negative g.group) e) in
                  subst (λ w. switched_off w ≡ m w) (sym v) (held_same g.group on)
              | inr later ↦
                  let p = g.plain l later in
                  plain_same (variable_of l) (plain_stays es keeps (variable_of l) p.named p.no_selector)
            ])) ∙ active g.group g.rest g.clause_is on
        | inr no_more ↦
            let selector : is_selector all g.group ≡ true = ap is_selector_name
            (keeps g.group (Selector g.group) g.named) in
            or_left (not (switched_off g.group)) (clause_true switched_off g.rest)
            (ap not (off_false g.group selector no_more))
      ]

  abbrev pub Implies : Type 0
  Implies = (live : LiveClauses) (literals : List Literal) (hints : List ℕ) → IsDerived live literals hints →
      (a : Assignment) → MakesTrue a live → clause_true a literals ≡ true

  pub all_true : Implies → (es : List Entry) → Keeps es → Each MayFollow es → Each IsGivenToGroup es →
      Each IsDerivedByHints es
      → MakesActiveTrue m es assumptions → MakesTrue switched_off (clause_at es)
  all_true implies [] keeps lawful grouped derived active = λ id c at. let n : None ≡ Some c = at in cc
  all_true implies (Given origin c ∷ es) keeps lawful grouped derived active =
      let rest_true = all_true implies es (λ w k h. keeps w k (name_step es (Given origin c) lawful.0 w k h)) lawful.1
      grouped.1 derived.1
      (λ o g rest h on. active o g rest (contains_later (Given origin c) (Given o (negative g ∷ rest)) es h) on) in
      one_more_true es (Given origin c) c refl refl switched_off rest_true
      (given_true es (λ w k h. keeps w k (name_step es (Given origin c) lawful.0 w k h)) c grouped.0
      (λ g rest is on. active origin g rest (subst (λ d. Contains (Given origin c ∷ es) (Given origin d)) is
      (contains_first (Given origin c) es)) on))
  all_true implies (Learned c hs ∷ es) keeps lawful grouped derived active =
      let rest_true = all_true implies es (λ w k h. keeps w k (name_step es (Learned c hs) lawful.0 w k h)) lawful.1
      grouped.1 derived.1
      (λ o g rest h on. active o g rest (contains_later (Learned c hs) (Given o (negative g ∷ rest)) es h) on) in
      one_more_true es (Learned c hs) c refl refl switched_off rest_true
      (implies (clause_at es) c hs derived.0 switched_off rest_true)
  all_true implies (Answer c hs ∷ es) keeps lawful grouped derived active =
      let rest_true = all_true implies es (λ w k h. keeps w k (name_step es (Answer c hs) lawful.0 w k h)) lawful.1
      grouped.1 derived.1
      (λ o g rest h on. active o g rest (contains_later (Answer c hs) (Given o (negative g ∷ rest)) es h) on) in
      one_more_true es (Answer c hs) c refl refl switched_off rest_true
      (implies (clause_at es) c hs derived.0 switched_off rest_true)
  all_true implies (e ∷ es) keeps lawful grouped derived active =
      all_true implies es (λ w k h. keeps w k (name_step es e lawful.0 w k h)) lawful.1 grouped.1 derived.1
      (λ o g rest h on. active o g rest (contains_later e (Given o (negative g ∷ rest)) es h) on)

  -- what is negated is false
  negated_false : (l : Literal) → (is_selector all (variable_of l) ≡ true → is_negative l ≡ true) →
      holds assumptions (opposite l) ≡ true → literal_true m (opposite l) ≡ true
      → literal_true switched_off l ≡ false
  negated_false (positive v) negated h t =
      let plain : is_selector all v ≡ false = elim (cases_Bool (is_selector all v)) [
        | inl s ↦ absurd (false≢true (negated s))
        | inr p ↦ p
      ] in
      plain_same v plain ∙ from_not (m v) t
    where
      from_not : (b : Bool) → not b ≡ true → b ≡ false
      from_not true e = absurd (false≢true e)
      from_not false e = refl
  negated_false (negative v) negated h t = ap not (held_same v h ∙ t)

pub excluded : ((live : LiveClauses) (literals : List Literal) (hints : List ℕ) → IsDerived live literals hints →
    (a : Assignment) → MakesTrue a live → clause_true a literals ≡ true)
    → (old new : ProofLog) (assumptions : List Literal) (id : ℕ) → IsSearched new.entries →
    IsRefutedUnder old new assumptions id
    → (m : Assignment) → MakesActiveTrue m new.entries assumptions → All (λ l. literal_true m l ≡ true) assumptions → ⊥
excluded implies old new assumptions id searched refuted m active truths =
    let all = new.entries in
    let c = refuted.clause in
    let es = refuted.before.entries in
    let entries : all ≡ Answer c refuted.hints ∷ es = ap (λ (l : ProofLog). l.entries) refuted.answered in
    let is_true = all_true all assumptions m implies all (λ v n h. h) searched.logged searched.grouped searched.derived
    active in
    let number : last_id all ≡ last_id es + 1 = ap last_id entries in
    let at_last : clause_at (Answer c refuted.hints ∷ es) (last_id es + 1) ≡ Some c =
    ap (λ b. option_and_then clause_of (cond b (Some (Answer c refuted.hints)) (numbered has_id es (last_id es + 1))))
    (eq-eqb (last_id es + 1) (last_id es + 1) refl) in
    let at : clause_at all (last_id es + 1) ≡ Some c = ap (λ xs. clause_at xs (last_id es + 1)) entries ∙ at_last in
    let here = is_true (last_id es + 1) c at in
    let none = clause_false (switched_off all assumptions m) c (λ l h.
    negated_false all assumptions m l (searched.negated (last_id es + 1) c l at h).negated (refuted.negated l h)
    (held_of_all (λ k. literal_true m k ≡ true) assumptions truths (opposite l) (refuted.negated l h))) in
    false≢true (sym none ∙ here)
