-- Turns of a search.
use Rattle.std.proofs.Common.{◌≡◌, ℕ, suc, ◌≤◌, Bool, true, false, List, [], ◌∷◌, ◌++◌, get_or, Some, None, is_some, All, refl, sym, ◌∙◌, ap, subst, arith}
use Rattle.std.proofs.lemmas.Bool.{false≢true, or_parts, false_from_ne_true}
use Rattle.std.proofs.lemmas.List.{append_assoc}
use Rattle.std.proofs.lemmas.List.Elements.{All-cons, All-nil, All-head, All-tail, All-from_get_or}
use Rattle.std.proofs.lemmas.Option.{slice_get-get_or}
use Rattle.dq_lits.specs.Literal.{Literal, positive, variable_of, opposite}
use Rattle.dq_lits.specs.Derivation.{LiveClauses, holds, status_of, unit}
use Rattle.dq_lits.proofs.HeldLiterals.{holds_cases, holds_here, holds_later}
use Rattle.dq_lits.proofs.SignedLiterals.{one_variable}
use Rattle.hint_log.specs.Entries.{Entry}
use Rattle.hint_log.specs.Entries.{ProofLog, name_of}
use Rattle.hint_log.proofs.NamedEntries.{each_both}
use Rattle.oracle.specs.Fit.{live_in}
use Rattle.learning_trail.specs.Resting.{rests, HeldFit, AreAwake}
use Rattle.learning_trail.proofs.RestingClauses.{held_stand, resting_selector}
use Rattle.oracle.specs.Searched.{Stands}
use Rattle.oracle.specs.Calls.{IsRefutedUnder}
use Rattle.learning_trail.specs.Growing.{HasLearned}
use Rattle.oracle.specs.declared.oracles.Answer.{Answer as SearchAnswer}
use Rattle.oracle.specs.declared.oracles.Answer.TheVariants.{Sat, Unsat}
use Rattle.learning_trail.specs.declared.trails.Step.{Step}
use Rattle.learning_trail.specs.Steps.{literals_of, is_decision, is_none, decision_of, Grown, Shrunk}
use Rattle.learning_trail.specs.Sound.{IsSound, IsReasoned, IsGuided, AreAssumed}
use Rattle.learning_trail.specs.Passes.{AreWithin, IsOpening}
use Rattle.learning_trail.specs.Searching.{Searched, AreAssumptions, IsAnswered}
use Rattle.learning_trail.proofs.ConflictAnalysis.{sound_consistent}
use Rattle.learning_trail.proofs.Lessons.{sound_later, guided_later, trail_assumed}
use Rattle.learning_trail.proofs.LargerTrails.{clause_read}
use Rattle.oracle.proofs.LearnedEntries.{learned_names}

-- below an assumption that isn't true yet, assumptions alone were decided
pub assumed_before : (entries : List Entry) (assumptions : List Literal) (steps : List Step) (a : Literal) →
    IsGuided entries assumptions steps → holds assumptions a ≡ true
    → holds (literals_of steps) a ≡ false → AreAssumed assumptions steps
assumed_before entries assumptions [] a guided h none = tt
assumed_before entries assumptions (s ∷ steps) a guided h none =
    search (arith, or_parts, false≢true, (assumed_before entries assumptions steps a guided.1 h))

-- where the newest decision was assumed, all were
pub decided_assumed : (entries : List Entry) (live : LiveClauses) (assumptions : List Literal) (steps : List Step) →
    IsSound live steps → IsGuided entries assumptions steps
    → ((d : Literal) → decision_of steps ≡ Some d → holds assumptions d ≡ true) → AreAssumed assumptions steps
decided_assumed entries live assumptions [] sound guided chosen = tt
decided_assumed entries live assumptions (s ∷ steps) sound guided chosen =
    search (arith, assumed_before, false≢true, (decided_assumed entries live assumptions steps sound.1 guided.1))

-- implied steps are guided
guided_more : (entries : List Entry) (assumptions : List Literal) (more steps : List Step) →
    All (λ s. is_decision s ≡ false) more → IsGuided entries assumptions steps
    → IsGuided entries assumptions (more ++ steps)
guided_more entries assumptions [] steps implied guided = guided
guided_more entries assumptions (s ∷ more) steps implied guided =
    let here = All-head (λ (k : Step). is_decision k ≡ false) s more implied in (
      record { named = λ e. absurd (false≢true (sym here ∙ e)); chosen = λ e. absurd (false≢true (sym here ∙ e)) },
      guided_more entries assumptions more steps (All-tail (λ (k : Step). is_decision k ≡ false) s more implied) guided,
    )

pub guided_grown : (entries : List Entry) (assumptions : List Literal) (old new : List Step) → Grown old new →
    IsGuided entries assumptions old → IsGuided entries assumptions new
guided_grown entries assumptions old new grown guided = search (arith, guided_more)

pub clauses_in_room : (held : List (List Literal)) (resting : List Bool) (variables room : ℕ) (es : List Entry) →
    HeldFit held resting variables es → variables ≤ room → AreWithin room held
clauses_in_room held resting variables room es fit low =
    All-from_get_or (λ (c : List Literal). All (λ (l : Literal). variable_of l ≤ room) c) held [] (λ k lt.
    let c = get_or held k [] in
    let at : live_in held (suc k) ≡ Some c = slice_get-get_or held k [] lt in
    by c (λ l h. let r = fit.fit.in_range (variable_of l) (held_stand held resting variables es fit (suc k) c l at
    h).named in let hi = r.1 in
    omega (arith, hi, low)))
  where
    by : (c : List Literal) → ((l : Literal) → holds c l ≡ true → variable_of l ≤ room) →
        All (λ l. variable_of l ≤ room) c
    by [] h = All-nil (λ (l : Literal). variable_of l ≤ room)
    by (x ∷ c) h = search (arith, All-cons, holds_here, holds_later, (by c))

-- no group that rests is switched on
pub trail_off : (entries : List Entry) (assumptions : List Literal) (clauses : List (List Literal)) (resting : List Bool)
    (variables : ℕ) (steps : List Step) → HeldFit clauses resting variables entries → AreAwake resting assumptions →
    IsSound (live_in clauses) steps → IsGuided entries assumptions steps → (v : ℕ) → rests resting v ≡ true →
    holds (literals_of steps) (positive v) ≡ false
trail_off entries assumptions clauses resting variables steps fit awake sound guided v on =
    false_from_ne_true (holds (literals_of steps) (positive v)) (λ h.
    false≢true (sym (awake v on) ∙ trail_assumed entries assumptions clauses steps
    (held_stand clauses resting variables entries fit) sound guided (positive v) h
    (resting_selector clauses resting variables entries fit v on) refl))

-- an open literal of a clause
pub opening_stands : (held : List (List Literal)) (resting : List Bool) (variables : ℕ) (es : List Entry)
    (trues : List Literal) (l : Literal) → HeldFit held resting variables es → IsOpening held trues (Some l) → Stands es l
opening_stands held resting variables es trues l fit opening =
    let c = opening.1 in
    let k = opening.2 in
    held_stand held resting variables es fit (suc k.0) c l (clause_read held k.0 c k.1 k.2) opening.3

pub names_same : (old new : ProofLog) → HasLearned old new → (v : ℕ) → name_of new.entries v ≡ name_of old.entries v
names_same old new learned v = ap (λ es. name_of es v) learned.grown ∙ learned_names learned.more old.entries v learned.each

pub assumptions_same : (old new : ProofLog) (assumptions : List Literal) → HasLearned old new →
    AreAssumptions old assumptions → AreAssumptions new assumptions
assumptions_same old new assumptions learned first = search (arith, is_some, names_same)

pub learned_both : (a b c : ProofLog) → HasLearned a b → HasLearned b c → HasLearned a c
learned_both a b c first second = search (arith, append_assoc, each_both)

pub refuted_later : (a b c : ProofLog) (assumptions : List Literal) (id : ℕ) → HasLearned a b →
    IsRefutedUnder b c assumptions id → IsRefutedUnder a c assumptions id
refuted_later a b c assumptions id learned refuted = search (arith, learned_both)

pub found_later : (assumptions : List Literal) (s : Searched) (a b c : ProofLog) (found : SearchAnswer) →
    HasLearned a b → IsAnswered assumptions s b c found → IsAnswered assumptions s a c found
found_later assumptions s a b c Sat learned found = (learned_both a b c learned found.0, found.1)
found_later assumptions s a b c (Unsat id) learned found = refuted_later a b c assumptions id learned found

-- down to a variable's literal
pub back_more : (old now new : List Step) (s : Step) → Shrunk old now → now ≡ s ∷ new → Shrunk old new
back_more old now new s h popped = record {
  popped = h.popped ++ s ∷ [];
  is =
      h.is ∙ ap (λ xs. h.popped ++ xs) popped ∙ sym (append_assoc h.popped (s ∷ []) new);
}

pub back_still : (now new : List Step) (s : Step) (l : Literal) → now ≡ s ∷ new →
    (variable_of s.literal ≡ variable_of l → ⊥) → holds (literals_of now) l ≡ true → holds (literals_of new) l ≡ true
back_still now new s l popped other h = search (arith, holds_cases)

module _ (entries : List Entry) (clauses : List (List Literal)) (assumptions : List Literal) (old new : List Step)
    (s : Step) (a : Literal)
    (sound : IsSound (live_in clauses) old) (guided : IsGuided entries assumptions old) (shrunk : Shrunk old (s ∷ new))
    (still : holds (literals_of (s ∷ new)) (opposite a) ≡ true) (same : variable_of s.literal ≡ variable_of a)
    (assumed : holds assumptions a ≡ true) where
  pub back_sound : IsSound (live_in clauses) (s ∷ new)
  back_sound = sound_later (live_in clauses) shrunk.popped (s ∷ new) (subst (IsSound (live_in clauses)) shrunk.is sound)

  pub back_guided : IsGuided entries assumptions (s ∷ new)
  back_guided = search (arith, guided_later)

  pub back_literal : s.literal ≡ opposite a
  back_literal = search (arith, one_variable, sound_consistent, back_sound, holds_here)

  not_yet : holds (literals_of (s ∷ new)) a ≡ false
  not_yet = search (arith, false_from_ne_true, sound_consistent, back_sound)

  pub back_assumed : AreAssumed assumptions (s ∷ new)
  back_assumed = assumed_before entries assumptions (s ∷ new) a back_guided assumed not_yet

  pub back_implied : (id : ℕ) → s.reason ≡ Some id → status_of (literals_of new) (live_in clauses id) ≡ unit
      (opposite a)
  back_implied id reason = subst (IsReasoned (live_in clauses) (literals_of new) s.literal) reason back_sound.0.reasoned
      ∙ ap unit back_literal

  pub back_reasoned : ((l : Literal) → holds assumptions l ≡ true → holds assumptions (opposite l) ≡ true → ⊥) →
      s.reason ≡ None → ⊥
  back_reasoned apart none = apart a assumed (ap (holds assumptions) (sym back_literal) ∙ back_assumed.0
      (ap is_none none))
