-- What is held in the place of clauses of groups that rest stands in no hint, and leaves the others
-- as they are.
use Rattle.std.proofs.Common.{◌≡◌, ℕ, zero, suc, ◌+◌, ◌<◌, Bool, true, false, cond, ◌||◌, ◌⊎◌, inl, inr, List, [], ◌∷◌, ◌++◌, length, get_or, Option, Some, None, is_some, refl, sym, ◌∙◌, ap, arith}
use Rattle.std.proofs.lemmas.Bool.{cases_Bool, false≢true, false_from_ne_true, or_cases, or_left, or_right}
use Rattle.std.proofs.lemmas.Option.{slice_get-get_or, slice_get_within}
use Rattle.dq_lits.specs.Literal.{Literal, positive, negative, variable_of, is_negative, opposite}
use Rattle.dq_lits.specs.Derivation.{falsified, stuck, holds, status_by, status_of, is_tautology}
use Rattle.dq_lits.proofs.SignedLiterals.{opposite-opposite}
use Rattle.dq_lits.proofs.HeldLiterals.{holds-append, holds_cases, holds_here, holds_later}
use Rattle.hint_log.specs.Entries.{Entry, clause_at}
use Rattle.hint_log.specs.Naming.{is_selector, is_selector_name}
use Rattle.hint_log.specs.ProductiveLog.{IsClosed}
use Rattle.oracle.specs.Fit.{live_in}
use Rattle.oracle.specs.Searched.{Stands}
use Rattle.dq_lits.specs.Extension.{not_false}
use Rattle.dq_lits.proofs.LiteralValues.{no_tautology}
use Rattle.learning_trail.specs.Analyses.{AllStand}
use Rattle.learning_trail.specs.Resting.{rests, IsPlaceholder, IsPut, HeldFit, AreAwake}
use Rattle.learning_trail.proofs.StatusLaws.{stuck_from_true}

-- what is held under an id stands for a clause of the log
pub record IsFor (resting : List Bool) (entries : List Entry) (id : ℕ) (put : List Literal) : Type 0 where
  pub clause : List Literal
  pub at : clause_at entries id ≡ Some clause
  pub is : (put ≡ clause) ⊎ IsPut resting clause put

-- a clause of the log is held, or another one in its place
pub record IsKeptAs (held : List (List Literal)) (resting : List Bool) (id : ℕ) (clause : List Literal) : Type 0 where
  pub put : List Literal
  pub at : live_in held id ≡ Some put
  pub is : (put ≡ clause) ⊎ IsPut resting clause put

module _ (held : List (List Literal)) (resting : List Bool) (variables : ℕ) (entries : List Entry)
    (fit : HeldFit held resting variables entries) where
  pub held_for : (id : ℕ) (put : List Literal) → live_in held id ≡ Some put → IsFor resting entries id put
  held_for zero put at = let n : None ≡ Some put = at in cc
  held_for (suc i) put at =
      let count = fit.count in
      let lt = slice_get_within held i put at in
      let whole_lt : i < length fit.whole = omega (arith, lt, count) in
      let is : live_in fit.whole (suc i) ≡ Some (get_or fit.whole i []) = slice_get-get_or fit.whole i [] whole_lt in
      record {
        clause = get_or fit.whole i [];
        at = sym (fit.fit.same (suc i)) ∙ is;
        is = fit.same (suc i) (get_or fit.whole i []) put is at;
      }

  pub kept_as : (id : ℕ) (clause : List Literal) → clause_at entries id ≡ Some clause →
      IsKeptAs held resting id clause
  kept_as zero clause at = let n : None ≡ Some clause = fit.fit.same zero ∙ at in cc
  kept_as (suc i) clause at =
      let is : live_in fit.whole (suc i) ≡ Some clause = fit.fit.same (suc i) ∙ at in
      let count = fit.count in
      let lt = slice_get_within fit.whole i clause is in
      let held_lt : i < length held = omega (arith, lt, count) in
      let put : live_in held (suc i) ≡ Some (get_or held i []) = slice_get-get_or held i [] held_lt in
      record { put = get_or held i []; at = put; is = fit.same (suc i) clause (get_or held i []) is put }

  pub resting_selector : (v : ℕ) → rests resting v ≡ true → is_selector entries v ≡ true
  resting_selector v on = ap is_selector_name (fit.selectors v on)

  resting_stands : (v : ℕ) → rests resting v ≡ true → Stands entries (negative v)
  resting_stands v on = record { named = ap is_some (fit.selectors v on); negated = λ _. refl }

  put_stands : (put : List Literal) (l : Literal) → IsPlaceholder resting put → holds put l ≡ true → Stands entries l
  put_stands put l p h = search (arith, holds_cases, resting_stands, false≢true)

  pub held_stand : AllStand entries (live_in held)
  held_stand id put l at h =
      let r = held_for id put at in
      elim r.is [
        | inl e ↦ fit.fit.negated id r.clause l r.at (ap (λ x. holds x l) (sym e) ∙ h)
        | inr p ↦ put_stands put l p.placeholder h
      ]

  -- where each selector of what is held was assumed, it is the log's clause
  pub awake_same : (assumptions : List Literal) → AreAwake resting assumptions → (id : ℕ) (put : List Literal) →
      live_in held id ≡ Some put
      → ((l : Literal) → holds put l ≡ true → is_selector entries (variable_of l) ≡ true →
      holds assumptions (opposite l) ≡ true) → live_in held id ≡ clause_at entries id
  awake_same assumptions awake id put at assumed =
      let r = held_for id put at in
      elim r.is [
        | inl e ↦ at ∙ ap (λ x. Some x) e ∙ sym r.at
        | inr p ↦
            let q = p.placeholder in
            let on = assumed (negative q.first) (ap (λ x. holds x (negative q.first)) q.is ∙ holds_here
            (negative q.first) (negative q.second ∷ [])) (resting_selector q.first q.first_rests) in
            absurd (false≢true (sym (awake q.first q.first_rests) ∙ on))
      ]

-- the negated selectors of the groups that rest, from a variable on
abbrev pub negated_from : ℕ → List Bool → List Literal
negated_from v [] = []
negated_from v (on ∷ resting) = cond on (negative v ∷ negated_from (suc v) resting) (negated_from (suc v) resting)

-- its literals
pub negated_gives : (v : ℕ) (resting : List Bool) (l : Literal) → holds (negated_from v resting) l ≡ true →
    (i : ℕ) × (l ≡ negative (v + i)) × (rests resting i ≡ true)
negated_gives v [] l h = absurd (false≢true h)
negated_gives v (true ∷ resting) l h = elim (holds_cases (negative v) (negated_from (suc v) resting) l h) [
  | inl e ↦
      let same : v ≡ v + zero = omega arith in
      (zero, e ∙ ap negative same, refl)
  | inr later ↦
      let r = negated_gives (suc v) resting l later in
      let same : suc v + r.0 ≡ v + suc r.0 = omega arith in
      (suc r.0, r.1 ∙ ap negative same, r.2)
]
negated_gives v (false ∷ resting) l h =
    let r = negated_gives (suc v) resting l h in
    let same : suc v + r.0 ≡ v + suc r.0 = omega arith in
    (suc r.0, r.1 ∙ ap negative same, r.2)

pub negated_has : (v : ℕ) (resting : List Bool) (i : ℕ) → rests resting i ≡ true →
    holds (negated_from v resting) (negative (v + i)) ≡ true
negated_has v [] i on = absurd (false≢true on)
negated_has v (true ∷ resting) zero on = search (arith, holds_here)
negated_has v (false ∷ resting) zero on = absurd (false≢true on)
negated_has v (true ∷ resting) (suc i) on =
    let same : v + suc i ≡ suc v + i = omega arith in
    holds_later (negative v) (negated_from (suc v) resting) (negative (v + suc i))
    (ap (λ n. holds (negated_from (suc v) resting) (negative n)) same ∙ negated_has (suc v) resting i on)
negated_has v (false ∷ resting) (suc i) on =
    let same : v + suc i ≡ suc v + i = omega arith in
    ap (λ n. holds (negated_from (suc v) resting) (negative n)) same ∙ negated_has (suc v) resting i on

-- the negated selectors of all groups that rest
abbrev pub switched_off : List Bool → List Literal
switched_off resting = negated_from 0 resting

pub off_gives : (resting : List Bool) (l : Literal) → holds (switched_off resting) l ≡ true →
    (i : ℕ) × (l ≡ negative i) × (rests resting i ≡ true)
off_gives resting l h = search (arith, negated_gives)

pub off_has : (resting : List Bool) (i : ℕ) → rests resting i ≡ true → holds (switched_off resting) (negative i) ≡ true
off_has resting i on =
    let same : i ≡ 0 + i = omega arith in
    ap (λ n. holds (switched_off resting) (negative n)) same ∙ negated_has 0 resting i on

no_positive : (resting : List Bool) (v : ℕ) → holds (switched_off resting) (positive v) ≡ false
no_positive resting v = search (arith, false_from_ne_true, off_gives)

-- literals that none of a clause's negates
same_left : (more trues clause : List Literal) → ((l : Literal) → holds clause l ≡ true →
    holds more (opposite l) ≡ false) → not_false (more ++ trues) clause ≡ not_false trues clause
same_left more trues [] apart = refl
same_left more trues (x ∷ clause) apart =
    search (arith, holds_later, holds-append, holds_here, (same_left more trues clause))

stuck_by : (more trues left : List Literal) → status_by trues left ≡ stuck → status_by (more ++ trues) left ≡ stuck
stuck_by more trues [] e = let n : falsified ≡ stuck = e in cc
stuck_by more trues (l ∷ rest) e = search (arith, cases_Bool, holds-append, or_right)

stuck_more : (more trues clause : List Literal) → status_of trues (Some clause) ≡ stuck → ((l : Literal) →
    holds clause l ≡ true → holds more (opposite l) ≡ false) → status_of (more ++ trues) (Some clause) ≡ stuck
stuck_more more trues clause is apart = search (arith, same_left, stuck_by)

module _ (held : List (List Literal)) (resting : List Bool) (variables : ℕ) (entries : List Entry)
    (fit : HeldFit held resting variables entries) (trues : List Literal)
    (apart : (v : ℕ) → rests resting v ≡ true → holds trues (positive v) ≡ false) where
  selected : (l : Literal) (i : ℕ) → opposite l ≡ negative i → rests resting i ≡ true →
      (is_selector entries (variable_of l) ≡ true) × (is_negative l ≡ false)
  selected (positive v) i e on = search arith
  selected (negative v) i e on = cc

  -- no clause of the log has a literal that a group's rest makes false
  never_off : (id : ℕ) (clause : List Literal) → clause_at entries id ≡ Some clause → (l : Literal) →
      holds clause l ≡ true → holds (switched_off resting) (opposite l) ≡ false
  never_off id clause at l m = false_from_ne_true (holds (switched_off resting) (opposite l)) (λ h.
      let r = off_gives resting (opposite l) h in
      let s = selected l r.0 r.1 r.2 in
      false≢true (sym s.1 ∙ (fit.fit.negated id clause l at m).negated s.0))

  -- where propagation over what is held has ended, it has over the log's clauses, with the selectors of groups that
  -- rest switched off
  pub closed_resting : IsClosed (live_in held) trues → IsClosed (clause_at entries) (switched_off resting ++ trues)
  closed_resting closed id = by (clause_at entries id) refl
    where
      by_kept : (clause : List Literal) → clause_at entries id ≡ Some clause → IsKeptAs held resting id clause →
          status_of (switched_off resting ++ trues) (Some clause) ≡ stuck
      by_kept clause at r = elim r.is [
        | inl same ↦ stuck_more (switched_off resting) trues clause
            (sym (ap (status_of trues) (r.at ∙ ap (λ x. Some x) same)) ∙ closed id) (never_off id clause at)
        | inr p ↦
            let on : holds (switched_off resting ++ trues) (negative p.group) ≡ true =
            holds-append (switched_off resting) trues (negative p.group)
            ∙ or_left (holds (switched_off resting) (negative p.group)) (holds trues (negative p.group))
            (off_has resting p.group p.group_rests) in
            let off : holds (switched_off resting ++ trues) (positive p.group) ≡ false =
            holds-append (switched_off resting) trues (positive p.group)
            ∙ ap (λ b. b || holds trues (positive p.group)) (no_positive resting p.group)
            ∙ apart p.group p.group_rests in
            stuck_from_true (switched_off resting ++ trues) clause (negative p.group) p.among on off
      ]

      by : (o : Option (List Literal)) → clause_at entries id ≡ o → status_of (switched_off resting ++ trues)
          (clause_at entries id) ≡ stuck
      by None e = ap (status_of (switched_off resting ++ trues)) e
      by (Some clause) e = ap (status_of (switched_off resting ++ trues)) e
          ∙ by_kept clause e (kept_as held resting variables entries fit id clause e)

  off_or_true : (l : Literal) → holds (switched_off resting ++ trues) l ≡ true →
      ((i : ℕ) × (l ≡ negative i) × (rests resting i ≡ true)) ⊎ (holds trues l ≡ true)
  off_or_true l h = search (arith, or_cases, holds-append, off_gives)

  pub consistent_resting : ((l : Literal) → holds trues l ≡ true → holds trues (opposite l) ≡ true → ⊥) →
      is_tautology (switched_off resting ++ trues) ≡ false
  consistent_resting consistent = no_tautology (switched_off resting ++ trues) (λ l h o.
      elim (off_or_true l h) [
        | inl off ↦ elim (off_or_true (opposite l) o) [
          | inl other ↦
              let n : opposite (negative off.0) ≡ negative other.0 = ap opposite (sym off.1) ∙ other.1 in
              cc
          | inr on ↦ false≢true (sym (apart off.0 off.2) ∙ ap (λ x. holds trues (opposite x)) (sym off.1) ∙ on)
        ]
        | inr on ↦ elim (off_or_true (opposite l) o) [
          | inl other ↦
              let e : l ≡ positive other.0 = sym (opposite-opposite l) ∙ ap opposite other.1 in
              false≢true (sym (apart other.0 other.2) ∙ ap (holds trues) (sym e) ∙ on)
          | inr both ↦ consistent l on both
        ]
      ])

  -- a literal that is no selector's gets no value by it
  pub plain_resting : (l : Literal) → is_selector entries (variable_of l) ≡ false → holds trues l ≡ false →
      holds (switched_off resting ++ trues) l ≡ false
  plain_resting l plain off = search (arith, false_from_ne_true, off_or_true, false≢true)

  pub true_resting : (l : Literal) → holds trues l ≡ true → holds (switched_off resting ++ trues) l ≡ true
  true_resting l on = search (arith, holds-append, or_right)
