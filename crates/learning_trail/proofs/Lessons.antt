-- What a conflict teaches is derived, new, and keeps its selectors; where the trail is taken back, it is unit.
use Rattle.std.proofs.Common.{◌≡◌, ◌≢◌, ℕ, zero, suc, ◌<◌, ◌≤◌, Bool, true, false, cond, not, ◌⊎◌, inl, inr, List, [], ◌∷◌, ◌++◌, map, length, slice_get, get_or, Option, Some, None, IsSome, is_some, refl, sym, ◌∙◌, ap, subst, arith, length-append}
use Rattle.std.proofs.lemmas.Bool.{cases_Bool, cases_eq, cases_lt, false≢true, or_cases, or_parts, false_from_ne_true}
use Rattle.std.proofs.lemmas.List.{get_or_append_left}
use Rattle.std.proofs.Math.Seq.{get_or-append_seam}
use Rattle.std.proofs.lemmas.Option.{slice_get-get_or, slice_get_within}
use Rattle.list_laws.proofs.Elements.{last_there}
use Rattle.dq_lits.specs.Literal.{Literal, positive, variable_of, is_negative, opposite, same_literal}
use Rattle.dq_lits.specs.Derivation.{LiveClauses, unit, stuck, holds, status_of, IsDerived}
use Rattle.dq_lits.proofs.SignedLiterals.{same_literal-refl, opposite_variable, opposite-opposite, opposite-negative}
use Rattle.dq_lits.proofs.HeldLiterals.{holds_cases, holds_here, holds_later}
use Rattle.hint_log.specs.Entries.{Entry}
use Rattle.hint_log.specs.Entries.{clause_at, name_of}
use Rattle.hint_log.specs.Naming.{is_selector}
use Rattle.hint_log.specs.ProductiveLog.{IsClosed, IsNewByPropagation}
use Rattle.oracle.specs.Fit.{HoldsHintedSelectors}
use Rattle.oracle.specs.Fit.{live_in}
use Rattle.oracle.specs.Searched.{Stands}
use Rattle.learning_trail.specs.declared.trails.Step.{Step}
use Rattle.learning_trail.specs.Steps.{Trailed, literals_of, is_decision, is_none, decision_of, under_level}
use Rattle.dq_lits.specs.Truth.{IsFree}
use Rattle.learning_trail.specs.Marks.{marked, is_level_marked}
use Rattle.learning_trail.specs.Sound.{IsSound, IsReasoned, IsGuided}
use Rattle.learning_trail.specs.Analyses.{IsAnalysis, AllStand}
use Rattle.learning_trail.specs.Lessons.{IsLesson, IsJump}
use Rattle.learning_trail.specs.Resting.{rests, HeldFit, AreAwake}
use Rattle.dq_lits.proofs.LiteralValues.{free_variable}
use Rattle.learning_trail.proofs.StatusLaws.{is_unit, stuck_from_two}
use Rattle.learning_trail.proofs.AnswerClauses.{concluded_derived, concluded_tied}
use Rattle.learning_trail.proofs.ConflictAnalysis.{AreConsistent, sound_consistent, free_later}
use Rattle.learning_trail.proofs.BacktrackSteps.{reason_of}
use Rattle.learning_trail.proofs.RestingClauses.{switched_off, held_stand, closed_resting, consistent_resting, plain_resting, true_resting, resting_selector}

-- suffixes
pub sound_later : (live : LiveClauses) (popped steps : List Step) → IsSound live (popped ++ steps) → IsSound live steps
sound_later live [] steps sound = sound
sound_later live (s ∷ popped) steps sound = sound_later live popped steps sound.1

pub guided_later : (entries : List Entry) (assumptions : List Literal) (popped steps : List Step) →
    IsGuided entries assumptions (popped ++ steps) → IsGuided entries assumptions steps
guided_later entries assumptions [] steps guided = guided
guided_later entries assumptions (s ∷ popped) steps guided = guided_later entries assumptions popped steps guided.1

-- every literal of the trail stands on a variable that has a name
pub trail_named : (entries : List Entry) (assumptions : List Literal) (clauses : List (List Literal))
    (steps : List Step) → AllStand entries (live_in clauses) → IsSound (live_in clauses) steps
    → IsGuided entries assumptions steps → (t : Literal) → holds (literals_of steps) t ≡ true →
    IsSome (name_of entries (variable_of t))
trail_named entries assumptions clauses [] stand sound guided t on = cc
trail_named entries assumptions clauses (s ∷ steps) stand sound guided t on =
    elim (holds_cases s.literal (literals_of steps) t on) [
      | inl e ↦ ap (λ x. is_some (name_of entries (variable_of x))) e ∙ by_reason s.reason refl
      | inr later ↦ trail_named entries assumptions clauses steps stand sound.1 guided.1 t later
    ]
  where
    by_reason : (r : Option ℕ) → s.reason ≡ r → IsSome (name_of entries (variable_of s.literal))
    by_reason None e = guided.0.named (ap is_none e)
    by_reason (Some id) e =
        let status = subst (IsReasoned (live_in clauses) (literals_of steps) s.literal) e sound.0.reasoned in
        let r = reason_of clauses id (literals_of steps) s.literal status in
        (stand id r.clause s.literal r.is r.implied.among).named

-- an implied literal is no selector made true
pub implied_negative : (entries : List Entry) (clauses : List (List Literal)) (steps : List Step) (s : Step) →
    AllStand entries (live_in clauses) → IsSound (live_in clauses) (s ∷ steps)
    → is_decision s ≡ false → is_selector entries (variable_of s.literal) ≡ true → is_negative s.literal ≡ true
implied_negative entries clauses steps s stand sound implied sel = by_reason s.reason refl
  where
    by_reason : (r : Option ℕ) → s.reason ≡ r → is_negative s.literal ≡ true
    by_reason None e = absurd (false≢true (sym implied ∙ ap is_none e))
    by_reason (Some id) e =
        let status = subst (IsReasoned (live_in clauses) (literals_of steps) s.literal) e sound.0.reasoned in
        let r = reason_of clauses id (literals_of steps) s.literal status in
        (stand id r.clause s.literal r.is r.implied.among).negated sel

-- a selector that the trail makes true was assumed
pub trail_assumed : (entries : List Entry) (assumptions : List Literal) (clauses : List (List Literal))
    (steps : List Step) → AllStand entries (live_in clauses) → IsSound (live_in clauses) steps
    → IsGuided entries assumptions steps → (t : Literal) → holds (literals_of steps) t ≡ true →
    is_selector entries (variable_of t) ≡ true → is_negative t ≡ false → holds assumptions t ≡ true
trail_assumed entries assumptions clauses [] stand sound guided t on sel up = cc
trail_assumed entries assumptions clauses (s ∷ steps) stand sound guided t on sel up =
    elim (holds_cases s.literal (literals_of steps) t on) [
      | inl e ↦
          let here = sym (ap (λ x. is_selector entries (variable_of x)) e) ∙ sel in
          let not_negative = sym up ∙ ap is_negative e in
          elim (cases_Bool (is_decision s)) [
            | inl was ↦ elim (guided.0.chosen was) [
              | inl a ↦ ap (holds assumptions) e ∙ a
              | inr c ↦ absurd (false≢true (not_negative ∙ c.1 here))
            ]
            | inr other ↦ absurd (false≢true (not_negative ∙ implied_negative entries clauses steps s stand sound
                other here))
          ]
      | inr later ↦ trail_assumed entries assumptions clauses steps stand sound.1 guided.1 t later sel up
    ]

-- what is below the newest level
pub below_closed : (live : LiveClauses) (steps : List Step) (d : Literal) → IsSound live steps →
    decision_of steps ≡ Some d → IsClosed live (literals_of (under_level steps))
below_closed live [] d sound is = cc
below_closed live (s ∷ steps) d sound is = search (arith, false≢true, (below_closed live steps d sound.1))

below_holds : (steps : List Step) (t : Literal) → holds (literals_of (under_level steps)) t ≡ true →
    holds (literals_of steps) t ≡ true
below_holds [] t h = h
below_holds (s ∷ steps) t h = search (arith, holds_later, (below_holds steps t))

-- the marked literals stand below a level that has no mark
pub below_marked : (marks : List Bool) (steps : List Step) (t : Literal) → is_level_marked marks steps ≡ false →
    holds (literals_of steps) t ≡ true → marked marks (variable_of t) ≡ true
    → holds (literals_of (under_level steps)) t ≡ true
below_marked marks [] t none h m = h
below_marked marks (s ∷ steps) t none h m =
    search (arith, or_parts, holds_cases, false≢true, (below_marked marks steps t))

-- where the step was decided, its decision is the newest one
newest_decision : (s : Step) (steps : List Step) (d : Literal) → is_decision s ≡ true →
    decision_of (s ∷ steps) ≡ Some d → s.literal ≡ d
newest_decision s steps d decided is = search arith

older_decision : (s : Step) (steps : List Step) (d : Literal) → is_decision s ≡ false →
    decision_of (s ∷ steps) ≡ Some d → decision_of steps ≡ Some d
older_decision s steps d implied is = sym (ap (λ b. cond b (Some s.literal) (decision_of steps)) implied) ∙ is

module _ (entries : List Entry) (assumptions : List Literal) (clauses : List (List Literal)) (resting : List Bool)
    (variables : ℕ) (old new : Trailed) (step : Step) (marks : List Bool) (clause : List Literal) (hints : List ℕ) (d : Literal)
    (fit : HeldFit clauses resting variables entries) (awake : AreAwake resting assumptions)
    (sound : IsSound (live_in clauses) old.steps)
    (guided : IsGuided entries assumptions old.steps)
    (decided : decision_of old.steps ≡ Some d) (chosen : holds assumptions d ≡ false)
    (lesson : IsLesson (live_in clauses) old new step marks clause hints) where
  stand : AllStand entries (live_in clauses)
  stand = held_stand clauses resting variables entries fit

  pub lesson_sound : IsSound (live_in clauses) (step ∷ new.steps)
  lesson_sound = sound_later (live_in clauses) lesson.shrunk.popped (step ∷ new.steps)
      (subst (IsSound (live_in clauses)) lesson.shrunk.is sound)

  pub lesson_guided : IsGuided entries assumptions (step ∷ new.steps)
  lesson_guided = guided_later entries assumptions lesson.shrunk.popped (step ∷ new.steps)
      (subst (IsGuided entries assumptions) lesson.shrunk.is guided)

  analysis : IsAnalysis entries (live_in clauses) [] (map opposite clause) marks hints
  analysis = lesson.analysis entries stand

  consistent : AreConsistent (literals_of (step ∷ new.steps))
  consistent = sound_consistent (live_in clauses) (step ∷ new.steps) lesson_sound

  -- the literals of the clause are negations of literals on the trail
  on_trail : (l : Literal) → holds clause l ≡ true → holds (literals_of (step ∷ new.steps)) (opposite l) ≡ true
  on_trail l h = search (arith, opposite-opposite, holds_here, holds_later)

  pub lesson_stands : (l : Literal) → holds clause l ≡ true → Stands entries l
  lesson_stands l h = record {
    named = ap (λ v. is_some (name_of entries v)) (sym (opposite_variable l)) ∙ trail_named entries assumptions clauses
        (step ∷ new.steps) stand lesson_sound lesson_guided (opposite l) (on_trail l h);
    negated = lesson.negated entries stand l h;
  }

  pub lesson_active : (l : Literal) → holds clause l ≡ true → is_selector entries (variable_of l) ≡ true →
      holds assumptions (opposite l) ≡ true
  lesson_active l h sel =
      trail_assumed entries assumptions clauses (step ∷ new.steps) stand lesson_sound lesson_guided (opposite l)
      (on_trail l h) (ap (is_selector entries) (opposite_variable l) ∙ sel)
      (opposite-negative l ∙ ap not (lesson.negated entries stand l h sel))

  pub lesson_derived : IsDerived (clause_at entries) clause hints
  lesson_derived = search (arith, concluded_derived, lesson_active, analysis)

  pub lesson_tied : HoldsHintedSelectors entries clause hints
  lesson_tied = search (arith, concluded_tied, lesson_active, analysis)

  pub lesson_no_selector : is_selector entries (variable_of step.literal) ≡ false
  lesson_no_selector = false_from_ne_true (is_selector entries (variable_of step.literal)) (λ sel.
      let negative' = lesson.negated entries stand (opposite step.literal) lesson.has_first
      (ap (is_selector entries) (opposite_variable step.literal) ∙ sel) in
      let positive' = turned (is_negative step.literal) (sym (opposite-negative step.literal) ∙ negative') in
      elim (cases_Bool (is_decision step)) [
        | inl was ↦
            let e = newest_decision step new.steps d was (lesson.level ∙ decided) in
            elim (lesson_guided.0.chosen was) [
              | inl a ↦ false≢true (sym chosen ∙ ap (holds assumptions) (sym e) ∙ a)
              | inr c ↦ false≢true (sym positive' ∙ c.1 sel)
            ]
        | inr other ↦ false≢true (sym positive' ∙ implied_negative entries clauses new.steps step stand lesson_sound
            other sel)
      ])
    where
      turned : (b : Bool) → not b ≡ true → b ≡ false
      turned true e = absurd (false≢true e)
      turned false e = refl

  abbrev pub below : List Step
  below = cond (is_decision step) new.steps (under_level new.steps)

  below_is_closed : IsClosed (live_in clauses) (literals_of below)
  below_is_closed = by (is_decision step) refl
    where
      by_reason : (r : Option ℕ) → is_none r ≡ true → IsReasoned (live_in clauses)
          (literals_of new.steps) step.literal r → IsClosed (live_in clauses) (literals_of new.steps)
      by_reason None n closed = closed
      by_reason (Some id) n closed = absurd (false≢true n)

      by : (b : Bool) → is_decision step ≡ b → IsClosed (live_in clauses)
          (literals_of (cond b new.steps (under_level new.steps)))
      by true e = by_reason step.reason e lesson_sound.0.reasoned
      by false e = below_closed (live_in clauses) new.steps d lesson_sound.1
          (older_decision step new.steps d e (lesson.level ∙ decided))

  below_in : (t : Literal) → holds (literals_of below) t ≡ true → holds (literals_of new.steps) t ≡ true
  below_in t h = search (arith, below_holds)

  marked_below : (t : Literal) → holds (literals_of new.steps) t ≡ true → marked marks (variable_of t) ≡ true →
      holds (literals_of below) t ≡ true
  marked_below t h m = search (arith, below_marked)

  -- no group that rests is switched on
  never_on : (v : ℕ) → rests resting v ≡ true → holds (literals_of below) (positive v) ≡ false
  never_on v on = false_from_ne_true (holds (literals_of below) (positive v)) (λ h.
      let assumed = trail_assumed entries assumptions clauses (step ∷ new.steps) stand lesson_sound lesson_guided
      (positive v) (holds_later step.literal (literals_of new.steps) (positive v) (below_in (positive v) h))
      (resting_selector clauses resting variables entries fit v on) refl in
      false≢true (sym (awake v on) ∙ assumed))

  below_consistent : (l : Literal) → holds (literals_of below) l ≡ true → holds (literals_of below) (opposite l) ≡ true
      → ⊥
  below_consistent l h o = consistent l (holds_later step.literal (literals_of new.steps) l (below_in l h))
      (holds_later step.literal (literals_of new.steps) (opposite l) (below_in (opposite l) o))

  no_selector : is_selector entries (variable_of (opposite step.literal)) ≡ false
  no_selector = ap (is_selector entries) (opposite_variable step.literal) ∙ lesson_no_selector

  pub lesson_new : IsNewByPropagation entries clause
  lesson_new = record {
    literal = opposite step.literal;
    trues = switched_off resting ++ literals_of below;
    among = lesson.has_first;
    no_selector = no_selector;
    consistent = consistent_resting clauses resting variables entries fit (literals_of below) never_on below_consistent;
    not_true = plain_resting clauses resting variables entries fit (literals_of below) never_on (opposite step.literal)
        no_selector (false_from_ne_true (holds (literals_of below) (opposite step.literal))
        (λ h. false≢true (sym lesson_sound.0.free.1 ∙ below_in (opposite step.literal) h)));
    not_false = plain_resting clauses resting variables entries fit (literals_of below) never_on
        (opposite (opposite step.literal))
        (ap (is_selector entries) (opposite_variable (opposite step.literal)) ∙ no_selector)
        (false_from_ne_true (holds (literals_of below) (opposite (opposite step.literal)))
        (λ h. false≢true (sym lesson_sound.0.free.0 ∙ ap (holds (literals_of new.steps))
        (sym (opposite-opposite step.literal)) ∙ below_in (opposite (opposite step.literal)) h)));
    rest_false = λ k h n. elim (lesson.only k h) [
      | inl e ↦ absurd (false≢true (sym n ∙ ap (same_literal k) (sym e) ∙ same_literal-refl k))
      | inr r ↦ true_resting clauses resting variables entries fit (literals_of below) never_on (opposite k)
          (marked_below (opposite k) r.0 (ap (marked marks) (opposite_variable k) ∙ r.1))
    ];
    closed = closed_resting clauses resting variables entries fit (literals_of below) never_on below_is_closed;
  }

-- a trail that goes with one clause more
module _ (clauses : List (List Literal)) (clause : List Literal) where
  pub live_more : (id : ℕ) → (live_in (clauses ++ clause ∷ []) id ≡ live_in clauses id) ⊎
      ((id ≡ suc (length clauses)) × (live_in (clauses ++ clause ∷ []) id ≡ Some clause))
  live_more zero = inl refl
  live_more (suc i) = elim (cases_lt i (length clauses)) [
    | inl h ↦ inl (front_get i h)
    | inr g ↦ elim (cases_eq i (length clauses)) [
      | inl e ↦ inr (ap suc e, last_get i e)
      | inr n ↦ inl (past (clauses ++ clause ∷ []) i (long i g n) ∙ sym (past clauses i g))
    ]
  ]
    where
      front_get : (i : ℕ) → i < length clauses → slice_get (clauses ++ clause ∷ []) i ≡ slice_get clauses i
      front_get i h =
          let g : i < length (clauses ++ clause ∷ []) = omega (arith, length-append clauses (clause ∷ []), h) in
          slice_get-get_or (clauses ++ clause ∷ []) i clause g ∙ ap (λ x. Some x)
          (get_or_append_left clauses (clause ∷ []) clause i h) ∙ sym (slice_get-get_or clauses i clause h)

      last_get : (i : ℕ) → i ≡ length clauses → slice_get (clauses ++ clause ∷ []) i ≡ Some clause
      last_get i e =
          let g : i < length (clauses ++ clause ∷ []) = omega (arith, length-append clauses (clause ∷ []), e) in
          slice_get-get_or (clauses ++ clause ∷ []) i clause g ∙ ap
          (λ k. Some (get_or (clauses ++ clause ∷ []) k clause)) e ∙ ap (λ x. Some x)
          (get_or-append_seam clauses clause [] clause)

      past : (xs : List (List Literal)) (i : ℕ) → length xs ≤ i → slice_get xs i ≡ None
      past xs i g = search (arith, slice_get_within)

      long : (i : ℕ) → length clauses ≤ i → i ≢ length clauses → length (clauses ++ clause ∷ []) ≤ i
      long i g n = omega (arith, length-append clauses (clause ∷ []), g, n)

  -- a fact of what is true before each decision
  abbrev pub StuckBefore : List Step → Type 0
  StuckBefore [] = Unit {0}
  StuckBefore (s ∷ steps) = (is_decision s ≡ true → status_of (literals_of steps) (Some clause) ≡ stuck) ×
      StuckBefore steps

  closed_more : (trues : List Literal) → IsClosed (live_in clauses) trues → status_of trues (Some clause) ≡ stuck →
      IsClosed (live_in (clauses ++ clause ∷ [])) trues
  closed_more trues closed is id = search (arith, live_more)

  unit_more : (trues : List Literal) (id : ℕ) (l : Literal) → status_of trues (live_in clauses id) ≡ unit l →
      status_of trues (live_in (clauses ++ clause ∷ []) id) ≡ unit l
  unit_more trues id l is = elim (live_more id) [
    | inl e ↦ ap (status_of trues) e ∙ is
    | inr e ↦
        let r = reason_of clauses id trues l is in
        let lt = r.is_id in let at = e.0 in
        absurd (omega (arith, lt, at))
  ]

  pub sound_more : (steps : List Step) → IsSound (live_in clauses) steps → StuckBefore steps →
      IsSound (live_in (clauses ++ clause ∷ [])) steps
  sound_more [] sound stuck' = tt
  sound_more (s ∷ steps) sound stuck' = search (arith, closed_more, unit_more, (sound_more steps sound.1 stuck'.1))

  -- two literals of the clause that are free below
  all_stuck : (live : LiveClauses) (steps : List Step) (p u : Literal) → IsSound live steps →
      holds clause (opposite p) ≡ true → holds clause (opposite u) ≡ true → variable_of p ≢ variable_of u
      → IsFree (literals_of steps) p → IsFree (literals_of steps) u → StuckBefore steps
  all_stuck live [] p u sound hp hu n fp fu = tt
  all_stuck live (s ∷ steps) p u sound hp hu n fp fu =
      search (
        arith,
        free_later,
        stuck_from_two,
        opposite_variable,
        opposite-opposite,
        (all_stuck live steps p u sound.1 hp hu n),
      )

  not_decided : (b : Bool) (x : Literal) (o : Option Literal) → cond b (Some x) o ≡ None → (b ≡ false) × (o ≡ None)
  not_decided true x o n = cc
  not_decided false x o n = (refl, n)

  pub no_decision_stuck : (steps : List Step) → decision_of steps ≡ None → StuckBefore steps
  no_decision_stuck [] none = tt
  no_decision_stuck (s ∷ steps) none = search (arith, not_decided, false≢true, (no_decision_stuck steps))

  level_case : (b m : Bool) → cond b false m ≡ true → (b ≡ false) × (m ≡ true)
  level_case true m h = absurd (false≢true h)
  level_case false m h = (refl, h)

  -- a marked literal stands in the newest level
  pub level_stuck : (live : LiveClauses) (marks : List Bool) (steps : List Step) (p : Literal) → IsSound live steps →
      is_level_marked marks steps ≡ true
      → ((t : Literal) → holds (literals_of steps) t ≡ true → marked marks (variable_of t) ≡ true →
      holds clause (opposite t) ≡ true)
      → holds clause (opposite p) ≡ true → IsFree (literals_of steps) p → StuckBefore steps
  level_stuck live marks [] p sound some has hp fp = tt
  level_stuck live marks (s ∷ steps) p sound some has hp fp =
      search (
        arith,
        free_later,
        or_cases,
        holds_here,
        free_variable,
        stuck_from_two,
        opposite_variable,
        opposite-opposite,
        all_stuck,
        level_case,
        false≢true,
        holds_later,
        (level_stuck live marks steps p sound.1),
      )

pub free_suffix : (popped steps : List Step) (l : Literal) → IsFree (literals_of (popped ++ steps)) l →
    IsFree (literals_of steps) l
free_suffix [] steps l free = free
free_suffix (s ∷ popped) steps l free = search (arith, free_later, (free_suffix popped steps l))

-- behind the jump the lesson is a unit clause, and the trail goes with it
pub lesson_lands : (clauses : List (List Literal)) (old new back : Trailed) (step : Step) (marks : List Bool)
    (clause : List Literal) (hints : List ℕ)
    → IsSound (live_in clauses) (step ∷ new.steps) → IsLesson (live_in clauses) old new step marks clause hints →
    IsJump new back marks
    → IsSound (live_in (clauses ++ clause ∷ [])) (record {
      literal = opposite step.literal;
      reason =
          Some (suc (length clauses));
    } ∷ back.steps)
lesson_lands clauses old new back step marks clause hints sound lesson jump =
    let p = step.literal in
    let sound_back = sound_later (live_in clauses) jump.shrunk.popped back.steps
    (subst (IsSound (live_in clauses)) jump.shrunk.is sound.1) in
    let free_new = subst (λ (xs : List Step). IsFree (literals_of xs) p) jump.shrunk.is sound.0.free in
    let free = free_suffix jump.shrunk.popped back.steps p free_new in
    let on_new : (t : Literal) → holds (literals_of back.steps) t ≡ true →
    holds (literals_of new.steps) t ≡ true = λ t h.
    subst (λ (xs : List Step). holds (literals_of xs) t ≡ true) (sym jump.shrunk.is)
    (holds_suffix jump.shrunk.popped back.steps t h) in
    let stuck_before : StuckBefore clauses clause back.steps = elim jump.ended [
      | inl none ↦ no_decision_stuck clauses clause back.steps none
      | inr some ↦ level_stuck clauses clause (live_in clauses) marks back.steps p sound_back some
          (λ t on m. lesson.has_rest t (on_new t on) m) lesson.has_first free
    ] in
    let not_p : IsFree (literals_of back.steps) (opposite p) =
    (free.1, ap (holds (literals_of back.steps)) (opposite-opposite p) ∙ free.0) in
    let is : live_in (clauses ++ clause ∷ []) (suc (length clauses)) ≡ Some clause = last_there clauses clause in (
      record {
        free = not_p;
        reasoned = ap (status_of (literals_of back.steps)) is ∙ is_unit (literals_of back.steps) clause
            (opposite p) lesson.has_first (λ l h n.
            elim (lesson.only l h) [
              | inl e ↦ absurd (n e)
              | inr r ↦ jump.kept (opposite l) r.0 (ap (marked marks) (opposite_variable l) ∙ r.1)
            ]) not_p;
      },
      sound_more clauses clause back.steps sound_back stuck_before,
    )
  where
    holds_suffix : (popped steps : List Step) (t : Literal) → holds (literals_of steps) t ≡ true →
        holds (literals_of (popped ++ steps)) t ≡ true
    holds_suffix [] steps t h = h
    holds_suffix (s ∷ popped) steps t h = search (arith, holds_later, (holds_suffix popped steps t h))
