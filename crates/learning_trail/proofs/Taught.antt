-- What a search learns goes into the log, and the trail goes on.
use Rattle.std.proofs.Common.{inl, inr, ◌≡◌, ℕ, zero, suc, ◌+◌, ◌<◌, ◌≤◌, Bool, true, false, List, [], ◌∷◌, ◌++◌, length, get_or, Some, IsSome, Contains, All, refl, sym, subst, arith}
use Rattle.std.proofs.lemmas.Bool.{false≢true}
use Rattle.std.proofs.lemmas.Option.{slice_get-get_or, slice_get_within}
use Rattle.std.proofs.lemmas.List.Elements.{All-from_get_or, All-cons, All-nil}
use Rattle.dq_lits.specs.Literal.{Literal, variable_of}
use Rattle.dq_lits.specs.Derivation.{holds}
use Rattle.dq_lits.proofs.HeldLiterals.{holds_here, holds_later}
use Rattle.hint_log.specs.Entries.{Entry}
use Rattle.hint_log.specs.Entries.{Learned}
use Rattle.hint_log.specs.Conditions.{AreNamed, AreIds, IsId}
use Rattle.hint_log.specs.Entries.{ProofLog, with_entry, name_of, last_id}
use Rattle.oracle.specs.Fit.{live_in}
use Rattle.learning_trail.specs.Resting.{HeldFit}
use Rattle.oracle.specs.Limits.{HasNextLemma}
use Rattle.oracle.specs.Searched.{Stands}
use Rattle.learning_trail.specs.Growing.{HasLearned}
use Rattle.learning_trail.specs.declared.trails.Step.{Step}
use Rattle.learning_trail.specs.Steps.{Trailed, literals_of, decision_of}
use Rattle.dq_lits.specs.Truth.{IsFree}
use Rattle.learning_trail.specs.Sound.{IsSound, IsGuided}
use Rattle.learning_trail.specs.Lessons.{IsLesson, IsJump, IsLanded, landed}
use Rattle.learning_trail.specs.Searching.{Searched, IsSearching}
use Rattle.learning_trail.proofs.Lessons.{lesson_derived, lesson_new, lesson_tied, lesson_stands, lesson_active, lesson_sound, lesson_guided, lesson_lands, guided_later, trail_named}
use Rattle.learning_trail.proofs.FitLogs.{held_learned}
use Rattle.learning_trail.proofs.RestingClauses.{held_stand}

pub clauses_within : (held : List (List Literal)) (resting : List Bool) (variables n : ℕ) (es : List Entry) →
    HeldFit held resting variables es → variables < n → All (λ c. All (λ l. variable_of l < n) c) held
clauses_within held resting variables n es fit low =
    All-from_get_or (λ (c : List Literal). All (λ (l : Literal). variable_of l < n) c) held [] (λ k lt.
    let c = get_or held k [] in
    let at : live_in held (suc k) ≡ Some c = slice_get-get_or held k [] lt in
    by c (λ l h. let r = fit.fit.in_range (variable_of l) (held_stand held resting variables es fit (suc k) c l at
    h).named in let hi = r.1 in
    omega (arith, hi, low)))
  where
    by : (c : List Literal) → ((l : Literal) → holds c l ≡ true → variable_of l < n) → All (λ l. variable_of l < n) c
    by [] h = All-nil (λ (l : Literal). variable_of l < n)
    by (x ∷ c) h = search (arith, All-cons, holds_here, holds_later, (by c))

pub all_named : (es : List Entry) (c : List Literal) → ((l : Literal) → holds c l ≡ true → Stands es l) → AreNamed es c
all_named es [] h = All-nil (λ (l : Literal). IsSome (name_of es (variable_of l)))
all_named es (x ∷ c) h = search (arith, All-cons, holds_here, holds_later, (all_named es c))

pub all_ids : (held : List (List Literal)) (resting : List Bool) (variables : ℕ) (es : List Entry) (hints : List ℕ) →
    HeldFit held resting variables es → ((h : ℕ) → Contains hints h → IsSome (live_in held h)) → AreIds es hints
all_ids held resting variables es hints fit some id has = by id (some id has)
  where
    by : (i : ℕ) → IsSome (live_in held i) → IsId es i
    by zero h = absurd (false≢true h)
    by (suc i) h = search (arith, false≢true, slice_get_within)

guided_learned : (es : List Entry) (c : List Literal) (hs : List ℕ) (assumptions : List Literal) (steps : List Step) →
    IsGuided es assumptions steps → IsGuided (Learned c hs ∷ es) assumptions steps
guided_learned es c hs assumptions [] guided = tt
guided_learned es c hs assumptions (s ∷ steps) guided =
    (record { named = guided.0.named; chosen = guided.0.chosen }, guided_learned es c hs assumptions steps guided.1)

module _ (assumptions : List Literal) (s : Searched) (log : ProofLog) (new : Trailed) (step : Step) (marks : List Bool)
    (clause : List Literal) (hints : List ℕ) (d : Literal)
    (searching : IsSearching assumptions s log) (decided : decision_of s.trail.steps ≡ Some d)
    (chosen : holds assumptions d ≡ false)
    (lesson : IsLesson (live_in s.clauses) s.trail new step marks clause hints) where
  pub learn_named : AreNamed log.entries clause
  learn_named = all_named log.entries clause (lesson_stands log.entries assumptions s.clauses s.resting s.variables s.trail new
      step marks clause hints d searching.fit searching.awake searching.sound searching.guided decided chosen lesson)

  pub learn_ids : AreIds log.entries hints
  learn_ids = all_ids s.clauses s.resting s.variables log.entries hints searching.fit
      (lesson.analysis log.entries (held_stand s.clauses s.resting s.variables log.entries searching.fit)).ids

  sound_here : IsSound (live_in s.clauses) (step ∷ new.steps)
  sound_here = search (arith, lesson_sound)

  pub learn_step : IsSound (live_in s.clauses) (step ∷ new.steps)
  learn_step = sound_here

  guided_here : IsGuided log.entries assumptions (step ∷ new.steps)
  guided_here = search (arith, lesson_guided)

  pub learn_in_range : variable_of step.literal ≤ s.variables
  learn_in_range =
      let named = trail_named log.entries assumptions s.clauses (step ∷ new.steps)
      (held_stand s.clauses s.resting s.variables log.entries searching.fit) sound_here guided_here
      step.literal (holds_here step.literal (literals_of new.steps)) in
      (searching.fit.fit.in_range (variable_of step.literal) named).1

  pub learn_free : IsFree (literals_of new.steps) step.literal
  learn_free = sound_here.0.free

  pub learn_fit : HeldFit (s.clauses ++ clause ∷ []) s.resting s.variables (Learned clause hints ∷ log.entries)
  learn_fit =
      search (arith, held_learned, learn_named, learn_ids, lesson_derived, lesson_new, lesson_tied, lesson_stands)

  -- what could be learned, whether the log has room for it or not
  pub learn_next : HasNextLemma log.entries assumptions
  learn_next = record {
    clause = clause;
    hints = hints;
    derived = lesson_derived log.entries assumptions s.clauses s.resting s.variables s.trail new step marks clause hints d
        searching.fit searching.awake searching.sound searching.guided decided chosen lesson;
    new = lesson_new log.entries assumptions s.clauses s.resting s.variables s.trail new step marks clause hints d searching.fit searching.awake
        searching.sound searching.guided decided chosen lesson;
    stands = lesson_stands log.entries assumptions s.clauses s.resting s.variables s.trail new step marks clause hints d
        searching.fit searching.awake searching.sound searching.guided decided chosen lesson;
    active = lesson_active log.entries assumptions s.clauses s.resting s.variables s.trail new step marks clause hints d
        searching.fit searching.awake searching.sound searching.guided decided chosen lesson;
  }

  learn_sound : (back : Trailed) (id : ℕ) → IsJump new back marks → id ≡ last_id log.entries + 1 →
      IsSound (live_in (s.clauses ++ clause ∷ [])) (landed step id ∷ back.steps)
  learn_sound back id jump is =
      let count = searching.fit.fit.count in
      let whole = searching.fit.count in
      let e : suc (length s.clauses) ≡ id = omega (arith, is, count, whole) in
      subst (λ i. IsSound (live_in (s.clauses ++ clause ∷ [])) (landed step i ∷ back.steps)) e
      (lesson_lands s.clauses s.trail new back step marks clause hints sound_here lesson jump)

  learn_guided : (back : Trailed) (id : ℕ) → IsJump new back marks →
      IsGuided (Learned clause hints ∷ log.entries) assumptions (landed step id ∷ back.steps)
  learn_guided back id jump = (
    record { named = λ e. absurd (false≢true e); chosen = λ e. absurd (false≢true e) },
    guided_learned log.entries clause hints assumptions back.steps
        (guided_later log.entries assumptions jump.shrunk.popped back.steps
        (subst (IsGuided log.entries assumptions) jump.shrunk.is guided_here.1)),
  )

  -- the trail goes on
  pub record GoesOn (now : Trailed) : Type 0 where
    pub room : now.room ≡ new.room
    pub sound : IsSound (live_in (s.clauses ++ clause ∷ [])) now.steps
    pub guided : IsGuided (Learned clause hints ∷ log.entries) assumptions now.steps

  pub learn_landed : (now : Trailed) (id : ℕ) → id ≡ last_id log.entries + 1 → IsLanded new now step marks id →
      GoesOn now
  learn_landed now id is (inl none) = subst GoesOn (sym none) (record { room = refl; sound = tt; guided = tt })
  learn_landed now id is (inr behind) = search (arith, learn_sound, learn_guided)

pub learned_one : (log new : ProofLog) (clause : List Literal) (hints : List ℕ) →
    new ≡ with_entry log (Learned clause hints) → HasLearned log new
learned_one log new clause hints is = subst (HasLearned log) (sym is)
    (record { more = Learned clause hints ∷ []; grown = refl; each = (tt, tt); limit = refl })
