-- Steps of taking a trail back.
use Rattle.std.proofs.Common.{◌≡◌, ◌≢◌, ℕ, zero, suc, ◌≤◌, ◌==◌, Bool, true, false, cond, not, ◌||◌, ◌&&◌, inl, inr, List, [], ◌∷◌, ◌++◌, map, length, reverse, Option, Some, refl, sym, ◌∙◌, ap, subst, arith, All}
use Rattle.std.proofs.lemmas.Bool.{false≢true, or_left, or_right, or_cases, ne_eqb}
use Rattle.std.proofs.lemmas.List.{append_assoc, reverse-append, map-append, reverse-reverse}
use Rattle.std.proofs.lemmas.Option.{slice_get_within}
use Rattle.std.proofs.lemmas.List.Elements.{All-append, All-cons, All-nil, All-head, All-tail}
use Rattle.dq_lits.specs.Literal.{Literal, variable_of, opposite, same_literal}
use Rattle.dq_lits.specs.Derivation.{LiveClauses, unit, stuck, holds, status_of}
use Rattle.dq_lits.proofs.SignedLiterals.{opposite-opposite}
use Rattle.dq_lits.proofs.HeldLiterals.{holds-append, holds_cases, holds_here, holds_later}
use Rattle.oracle.specs.Fit.{live_in}
use Rattle.learning_trail.specs.declared.trails.Step.{Step}
use Rattle.learning_trail.specs.Steps.{Trailed, literals_of, is_decision, is_none, decision_of, Shrunk}
use Rattle.learning_trail.specs.Marks.{marked, stands_on, is_level_marked}
use Rattle.learning_trail.specs.Sound.{IsSound, AreAssumed}
use Rattle.learning_trail.specs.Analyses.{IsAnalysis}
use Rattle.learning_trail.specs.Backing.{LeadsOn, IsBacking, IsFirstPoint, IsKeeping}
use Rattle.learning_trail.specs.Noting.{Noted}
use Rattle.dq_lits.proofs.LiteralValues.{free_variable}
use Rattle.learning_trail.proofs.StatusLaws.{IsImplied, implied_from}
use Rattle.learning_trail.proofs.ConflictAnalysis.{sound_consistent, analysis_next, analysis_past, analysis_kept}

-- the clause of a reason
pub record IsReason (clauses : List (List Literal)) (id : ℕ) (trues : List Literal) (l : Literal) : Type 0 where
  pub from_one : 1 ≤ id
  pub is_id : id ≤ length clauses
  pub clause : List Literal
  pub is : live_in clauses id ≡ Some clause
  pub implied : IsImplied trues clause l

pub reason_of : (clauses : List (List Literal)) (id : ℕ) (trues : List Literal) (l : Literal) →
    status_of trues (live_in clauses id) ≡ unit l → IsReason clauses id trues l
reason_of clauses zero trues l h = let n : stuck ≡ unit l = h in cc
reason_of clauses (suc i) trues l h = search (arith, slice_get_within, implied_from)

all_turned : {X : Type 0} (P : X → Type 0) (xs : List X) → All P xs → All P (reverse xs)
all_turned P [] all = all
all_turned P (x ∷ xs) all =
    subst (All P) (sym (reverse-append (x ∷ []) xs))
    (All-append P (reverse xs) (x ∷ []) (all_turned P xs (All-tail P x xs all))
    (All-cons P x [] (All-head P x xs all) (All-nil P)))

pub all_reverse : {X : Type 0} (P : X → Type 0) (xs : List X) → All P (reverse xs) → All P xs
all_reverse P xs all = subst (All P) (reverse-reverse xs) (all_turned P (reverse xs) all)

shrunk_more : (old new : List Step) (s : Step) → Shrunk old (s ∷ new) → Shrunk old new
shrunk_more old new s h = record { popped = h.popped ++ s ∷ []; is = h.is ∙ sym (append_assoc h.popped (s ∷ []) new) }

level_kept_by : (b x y : Bool) → (x ≡ true → y ≡ true) → cond b false x ≡ true → cond b false y ≡ true
level_kept_by true x y h g = g
level_kept_by false x y h g = h g

pub level_kept : (before after : List Bool) (steps : List Step) →
    ((t : Literal) → holds (literals_of steps) t ≡ true → marked before (variable_of t) ≡ true →
    marked after (variable_of t) ≡ true)
    → is_level_marked before steps ≡ true → is_level_marked after steps ≡ true
level_kept before after [] keeps h = h
level_kept before after (s ∷ steps) keeps h =
    search (
      arith,
      or_cases,
      or_left,
      holds_here,
      or_right,
      level_kept_by,
      holds_later,
      (level_kept before after steps),
    )

-- past a literal that isn't marked
past_decision : (b : Bool) (p : Bool) (x y : Option Literal) → cond b false p ≡ true → (p ≡ true) × (cond b x y ≡ y)
past_decision true p x y h = absurd (false≢true h)
past_decision false p x y h = (h, refl)

-- the analysis, past a literal that isn't marked, one that is resolved, and one that is kept
pub leads_past_step : (live : LiveClauses) (old new : List Step) (was now : Noted) (s : Step) →
    LeadsOn live old (s ∷ new) was now → marked now.marks (variable_of s.literal) ≡ false → LeadsOn live old new was now
leads_past_step live old new was now s inv unmarked entries stand first = search (arith, analysis_past)

pub leads_resolved : (clauses : List (List Literal)) (old new : List Step) (was now after : Noted) (s : Step) (id : ℕ) →
    LeadsOn (live_in clauses) old (s ∷ new) was now
    → IsSound (live_in clauses) (s ∷ new) → status_of (literals_of new) (live_in clauses id) ≡ unit s.literal →
    marked now.marks (variable_of s.literal) ≡ true
    → after.hints ≡ now.hints ++ id ∷ [] → after.literals ≡ now.literals
    → ((c : List Literal) (v : ℕ) → live_in clauses id ≡ Some c →
    marked after.marks v ≡ (not (variable_of s.literal == v) && (marked now.marks v || stands_on c v)))
    → LeadsOn (live_in clauses) old new was after
leads_resolved clauses old new was now after s id inv sound status mark hints literals marks_are entries stand first =
    let live = live_in clauses in
    let r = reason_of clauses id (literals_of new) s.literal status in
    let consistent = sound_consistent live new sound.1 in
    let turned : reverse after.hints ≡ id ∷ reverse now.hints = ap reverse hints ∙ reverse-append now.hints (id ∷ []) in
    subst (λ (ls : List Literal). IsAnalysis entries live (literals_of new) (map opposite ls) after.marks
    (reverse after.hints)) (sym literals)
    (subst (IsAnalysis entries live (literals_of new) (map opposite now.literals) after.marks) (sym turned)
    (analysis_next entries live now.marks after.marks (literals_of new)
    (map opposite now.literals) r.clause s.literal id (reverse now.hints) r.is r.implied
    (λ l m. stand id r.clause l r.is m) consistent mark
    (λ v. marks_are r.clause v r.is) (inv entries stand first)))

pub kept_one : (literals : List Literal) (l t : Literal) → holds (map opposite (literals ++ opposite l ∷ [])) t ≡
    (holds (map opposite literals) t || same_literal t l)
kept_one literals l t = search (arith, map-append, holds-append, opposite-opposite)

pub leads_noted : (live : LiveClauses) (old new : List Step) (was now after : Noted) (s : Step) →
    LeadsOn live old (s ∷ new) was now → IsSound live (s ∷ new)
    → after ≡ record {
      marks = now.marks;
      places = now.places;
      hints = now.hints;
      literals =
          now.literals ++ opposite s.literal ∷ [];
    } → LeadsOn live old new was after
leads_noted live old new was now after s inv sound is = subst (LeadsOn live old new was) (sym is)
    (λ entries stand first.
    analysis_kept entries live now.marks (literals_of new) (map opposite now.literals)
    (map opposite (now.literals ++ opposite s.literal ∷ [])) s.literal (reverse now.hints) sound.0.free
    (kept_one now.literals s.literal) (inv entries stand first))

pub backing_past : (live : LiveClauses) (old now new : Trailed) (was noted : Noted) (s : Step) →
    IsBacking live old now was noted
    → now.steps ≡ s ∷ new.steps → new.room ≡ now.room → marked noted.marks (variable_of s.literal) ≡ false →
    IsBacking live old new was noted
backing_past live old now new was noted s inv popped room unmarked =
    let some : (marked noted.marks (variable_of s.literal) || cond (is_decision s) false
    (is_level_marked noted.marks new.steps)) ≡ true = sym (ap (is_level_marked noted.marks) popped) ∙ inv.some in
    let later : cond (is_decision s) false (is_level_marked noted.marks new.steps) ≡ true =
    sym (ap (λ b. b || cond (is_decision s) false (is_level_marked noted.marks new.steps)) unmarked) ∙ some in
    let both = past_decision (is_decision s) (is_level_marked noted.marks new.steps) (Some s.literal)
    (decision_of new.steps) later in
    record {
      len = inv.len;
      literals = inv.literals;
      room = room ∙ inv.room;
      sound = (subst (IsSound live) popped inv.sound).1;
      shrunk = shrunk_more old.steps new.steps s (subst (Shrunk old.steps) popped inv.shrunk);
      some = both.0;
      level = sym both.1 ∙ sym (ap decision_of popped) ∙ inv.level;
      analysis = leads_past_step live old.steps new.steps was noted s
          (subst (λ (xs : List Step). LeadsOn live old.steps xs was noted) popped inv.analysis) unmarked;
    }

-- past a literal that is resolved
pub backing_next : (clauses : List (List Literal)) (old now new : Trailed) (was noted after : Noted) (s : Step) (id : ℕ)
    → IsBacking (live_in clauses) old now was noted → now.steps ≡ s ∷ new.steps → new.room ≡ now.room →
    s.reason ≡ Some id
    → status_of (literals_of new.steps) (live_in clauses id) ≡ unit s.literal
    → marked noted.marks (variable_of s.literal) ≡ true → is_level_marked noted.marks new.steps ≡ true →
    length after.marks ≡ length noted.marks
    → after.hints ≡ noted.hints ++ id ∷ [] → after.literals ≡ noted.literals
    → ((c : List Literal) (v : ℕ) → live_in clauses id ≡ Some c →
    marked after.marks v ≡ (not (variable_of s.literal == v) && (marked noted.marks v || stands_on c v)))
    → IsBacking (live_in clauses) old new was after
backing_next clauses old now new was noted after s id inv popped room reason status mark some len hints literals
    marks_are =
    let live = live_in clauses in
    let r = reason_of clauses id (literals_of new.steps) s.literal status in
    let sound = subst (IsSound live) popped inv.sound in
    let implied_now : is_decision s ≡ false = ap is_none reason in
    record {
      len = len ∙ inv.len;
      literals = literals ∙ inv.literals;
      room = room ∙ inv.room;
      sound = sound.1;
      shrunk = shrunk_more old.steps new.steps s (subst (Shrunk old.steps) popped inv.shrunk);
      some = level_kept noted.marks after.marks new.steps (λ t on m.
          let other : variable_of t ≢ variable_of s.literal =
          λ e. free_variable (literals_of new.steps) s.literal t sound.0.free on e in
          marks_are r.clause (variable_of t) r.is ∙ ap (λ b. not b &&
          (marked noted.marks (variable_of t) || stands_on r.clause (variable_of t)))
          (ne_eqb (variable_of s.literal) (variable_of t) (λ e. other (sym e)))
          ∙ or_left (marked noted.marks (variable_of t)) (stands_on r.clause (variable_of t)) m) some;
      level = sym (ap (λ b. cond b (Some s.literal) (decision_of new.steps)) implied_now) ∙ sym (ap decision_of popped)
          ∙ inv.level;
      analysis = leads_resolved clauses old.steps new.steps was noted after s id
          (subst (λ (xs : List Step). LeadsOn live old.steps xs was noted) popped inv.analysis) sound status mark hints
          literals marks_are;
    }

pub backing_ends : (live : LiveClauses) (old now new : Trailed) (was noted : Noted) (s : Step) →
    IsBacking live old now was noted → now.steps ≡ s ∷ new.steps → new.room ≡ now.room
    → marked noted.marks (variable_of s.literal) ≡ true → (is_decision s ≡ false →
    is_level_marked noted.marks new.steps ≡ false) → IsFirstPoint live old new s was noted
backing_ends live old now new was noted s inv popped room mark first = record {
  len = inv.len;
  literals = inv.literals;
  room = room ∙ inv.room;
  shrunk = subst (Shrunk old.steps) popped inv.shrunk;
  mark = mark;
  first = first;
  level = ap decision_of (sym popped) ∙ inv.level;
  analysis = subst (λ (xs : List Step). LeadsOn live old.steps xs was noted) popped inv.analysis;
}

pub keeping_past : (live : LiveClauses) (old now new : Trailed) (was noted : Noted) (s : Step)
    → IsKeeping live old now was noted → now.steps ≡ s ∷ new.steps → new.room ≡ now.room →
    marked noted.marks (variable_of s.literal) ≡ false → IsKeeping live old new was noted
keeping_past live old now new was noted s inv popped room unmarked = record {
  len = inv.len;
  room = room ∙ inv.room;
  sound = (subst (IsSound live) popped inv.sound).1;
  negated = λ assumptions assumed negs. let r = inv.negated assumptions assumed negs in
      ((subst (AreAssumed assumptions) popped r.0).1, r.1);
  analysis = leads_past_step live old.steps new.steps was noted s
      (subst (λ (xs : List Step). LeadsOn live old.steps xs was noted) popped inv.analysis) unmarked;
}

pub keeping_next : (clauses : List (List Literal)) (old now new : Trailed) (was noted after : Noted) (s : Step) (id : ℕ)
    → IsKeeping (live_in clauses) old now was noted → now.steps ≡ s ∷ new.steps → new.room ≡ now.room
    → status_of (literals_of new.steps) (live_in clauses id) ≡ unit s.literal
    → marked noted.marks (variable_of s.literal) ≡ true → length after.marks ≡ length noted.marks →
    after.hints ≡ noted.hints ++ id ∷ [] → after.literals ≡ noted.literals
    → ((c : List Literal) (v : ℕ) → live_in clauses id ≡ Some c →
    marked after.marks v ≡ (not (variable_of s.literal == v) && (marked noted.marks v || stands_on c v)))
    → IsKeeping (live_in clauses) old new was after
keeping_next clauses old now new was noted after s id inv popped room status mark len hints literals marks_are =
    let live = live_in clauses in
    let sound = subst (IsSound live) popped inv.sound in
    record {
      len = len ∙ inv.len;
      room = room ∙ inv.room;
      sound = sound.1;
      negated = λ assumptions assumed negs.
          let q = inv.negated assumptions assumed negs in
          ((subst (AreAssumed assumptions) popped q.0).1, λ l m. q.1 l (ap (λ xs. holds xs l) (sym literals) ∙ m));
      analysis = leads_resolved clauses old.steps new.steps was noted after s id
          (subst (λ (xs : List Step). LeadsOn live old.steps xs was noted) popped inv.analysis) sound status mark hints
          literals marks_are;
    }

pub keeping_decision : (live : LiveClauses) (old now new : Trailed) (was noted after : Noted) (s : Step)
    → IsKeeping live old now was noted → now.steps ≡ s ∷ new.steps → new.room ≡ now.room → is_decision s ≡ true
    → after ≡ record {
      marks = noted.marks;
      places = noted.places;
      hints = noted.hints;
      literals =
          noted.literals ++ opposite s.literal ∷ [];
    } → IsKeeping live old new was after
keeping_decision live old now new was noted after s inv popped room decided is =
    let sound = subst (IsSound live) popped inv.sound in
    let more_is : after.literals ≡ noted.literals ++ opposite s.literal ∷ [] = ap (λ (n : Noted). n.literals) is in
    record {
      len = ap (λ (n : Noted). length n.marks) is ∙ inv.len;
      room = room ∙ inv.room;
      sound = sound.1;
      negated = λ assumptions assumed negs.
          let r = inv.negated assumptions assumed negs in
          let a = subst (AreAssumed assumptions) popped r.0 in (
            a.1,
            λ l m. elim (or_cases (holds noted.literals l) (holds (opposite s.literal ∷ []) l)
                (sym (holds-append noted.literals (opposite s.literal ∷ []) l) ∙ sym
                (ap (λ xs. holds xs l) more_is) ∙ m)) [
                  | inl k ↦ r.1 l k
                  | inr h ↦ elim (holds_cases (opposite s.literal) [] l h) [
                    | inl e ↦ ap (holds assumptions) (ap opposite e ∙ opposite-opposite s.literal) ∙ a.0 decided
                    | inr none ↦ absurd (false≢true none)
                  ]
                ],
          );
      analysis = leads_noted live old.steps new.steps was noted after s
          (subst (λ (xs : List Step). LeadsOn live old.steps xs was noted) popped inv.analysis) sound is;
    }

pub reason_at : (live : LiveClauses) (now : List Step) (rest : List Step) (s : Step) (id : ℕ) → IsSound live now →
    now ≡ s ∷ rest → s.reason ≡ Some id → status_of (literals_of rest) (live id) ≡ unit s.literal
reason_at live now rest s id sound popped reason = search arith

-- nothing was left to take back
pub keeping_same : (live : LiveClauses) (old now new : Trailed) (was noted : Noted) → new.steps ≡ now.steps →
    new.room ≡ now.room → IsKeeping live old now was noted → IsKeeping live old new was noted
keeping_same live old now new was noted steps room inv = search arith
