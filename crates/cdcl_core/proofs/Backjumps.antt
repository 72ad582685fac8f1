-- The trail goes on behind a learned clause, whose watches guard.
use Rattle.std.proofs.Common.{◌≡◌, ℕ, suc, ◌≤◌, Bool, true, false, inl, inr, List, [], ◌∷◌, ◌++◌, length, Option, None, Some, IfSome, MatchOption, sym, ◌∙◌, ap, subst, arith, length-append}
use Rattle.std.proofs.lemmas.Bool.{cases_Bool, cases_eq, cases_lt, false≢true, or_parts}
use Rattle.dq_lits.specs.Literal.{Literal, opposite, same_literal, variable_of}
use Rattle.dq_lits.specs.Derivation.{LiveClauses, holds}
use Rattle.dq_lits.proofs.Truth.{same_literal-sound}
use Rattle.dq_lits.proofs.SignedLiterals.{opposite-opposite, same_opposite}
use Rattle.dq_lits.proofs.HeldLiterals.{holds_cases, holds_here, holds_later}
use Rattle.learning_trail.specs.declared.trails.Step.{Step}
use Rattle.learning_trail.specs.Steps.{Trailed, literals_of, level_of, Shrunk}
use Rattle.dq_lits.specs.Truth.{IsFree}
use Rattle.learning_trail.specs.Marks.{marked}
use Rattle.learning_trail.specs.Sound.{IsSound}
use Rattle.cdcl_core.specs.Chains.{watch_at}
use Rattle.cdcl_core.specs.Watching.{Guards, AreShortTrue, IsGuarded, AreLevelsGuarded, CanPropagate}
use Rattle.cdcl_core.specs.Storage.{Stored, IsHeldWatched}
use Rattle.learning_trail.specs.Lessons.{LandsInLevel, landed}
use Rattle.cdcl_core.proofs.GuardedClauses.{among_suffix, guarded_grown, levels_later}
use Rattle.learning_trail.proofs.Lessons.{live_more, free_suffix, sound_later}
use Rattle.cdcl_core.proofs.AddedClauses.{watch_old, watch_new}
use Rattle.cdcl_core.proofs.VisitedClauses.{off_end}

guards_more : (processed trues these others : List Literal) (k l : Literal) → length these ≡ length others →
    Guards processed trues these others
    → (holds processed (opposite k) ≡ true → holds trues l ≡ true) →
    Guards processed trues (these ++ k ∷ []) (others ++ l ∷ [])
guards_more processed trues these others k l count guards new i apart is_false =
    search (arith, cases_lt, watch_old, cases_eq, watch_new, off_end, length-append)

short_true_more : (clauses : List (List Literal)) (first second trues c : List Literal) (k l : Literal) →
    length first ≡ length clauses → length second ≡ length clauses → same_literal k l ≡ false
    → AreShortTrue clauses first second trues → AreShortTrue (clauses ++ c ∷ []) (first ++ k ∷ [])
    (second ++ l ∷ []) trues
short_true_more clauses first second trues c k l count count' apart short i d at same =
    elim (cases_lt i (length clauses)) [
      | inl lt ↦ elim (live_more clauses c (suc i)) [
        | inl e ↦ short i d (sym e ∙ at)
            (ap (λ x. same_literal x (watch_at second i)) (sym (watch_old first k i (omega (arith, lt, count))))
            ∙ ap (same_literal (watch_at (first ++ k ∷ []) i)) (sym
            (watch_old second l i (omega (arith, lt, count')))) ∙ same)
        | inr n ↦ let e = n.0 in absurd (omega (arith, e, lt))
      ]
      | inr past ↦ elim (cases_eq i (length clauses)) [
        | inl e ↦ absurd (false≢true (sym apart ∙ ap (λ x. same_literal x l) (sym (watch_new first k i (e ∙ sym count)))
            ∙ ap (same_literal (watch_at (first ++ k ∷ []) i)) (sym (watch_new second l i (e ∙ sym count'))) ∙ same))
        | inr n ↦ elim (live_more clauses c (suc i)) [
          | inl e ↦ short i d (sym e ∙ at) (at_end i past n)
          | inr m ↦ let e = m.0 in absurd (n (omega (arith, e)))
        ]
      ]
    ]
  where
    at_end : (i : ℕ) → length clauses ≤ i → (i ≡ length clauses → ⊥) →
        same_literal (watch_at first i) (watch_at second i) ≡ true
    at_end i past n = search (arith, cases_Bool, off_end)

pub guarded_more : (clauses : List (List Literal)) (first second processed trues c : List Literal) (k l : Literal) →
    length first ≡ length clauses → length second ≡ length clauses
    → same_literal k l ≡ false → IsGuarded clauses first second processed trues →
    (holds processed (opposite k) ≡ true → holds trues l ≡ true)
    → (holds processed (opposite l) ≡ true → holds trues k ≡ true) →
    IsGuarded (clauses ++ c ∷ []) (first ++ k ∷ []) (second ++ l ∷ []) processed trues
guarded_more clauses first second processed trues c k l count count' apart g a b = record {
  first_guards = guards_more processed trues first second k l (count ∙ sym count') g.first_guards a;
  second_guards = guards_more processed trues second first l k (count' ∙ sym count) g.second_guards b;
  short = short_true_more clauses first second trues c k l count count' apart g.short;
}

off_later : (x : Literal) (xs : List Literal) (l : Literal) → holds (x ∷ xs) l ≡ false → holds xs l ≡ false
off_later x xs l h = (or_parts (same_literal l x) (holds xs l) h).1

module _ (clauses : List (List Literal)) (first second c : List Literal) (k l : Literal)
    (count : length first ≡ length clauses) (count' : length second ≡ length clauses)
    (apart : same_literal k l ≡ false) where
  both_off : (trues : List Literal) → holds trues (opposite k) ≡ false → holds trues (opposite l) ≡ false →
      IsGuarded clauses first second trues trues
      → IsGuarded (clauses ++ c ∷ []) (first ++ k ∷ []) (second ++ l ∷ []) trues trues
  both_off trues a b g =
      guarded_more clauses first second trues trues c k l count count' apart g (λ h. absurd (false≢true (sym a ∙ h)))
      (λ h. absurd (false≢true (sym b ∙ h)))

  levels_apart : (steps : List Step) → holds (literals_of steps) (opposite k) ≡ false →
      holds (literals_of steps) (opposite l) ≡ false → AreLevelsGuarded clauses first second steps
      → AreLevelsGuarded (clauses ++ c ∷ []) (first ++ k ∷ []) (second ++ l ∷ []) steps
  levels_apart [] a b levels = tt
  levels_apart (s ∷ earlier) a b levels = search (arith, off_later, both_off, (levels_apart earlier))

  levels_level : (live : LiveClauses) (steps : List Step) → IsSound live steps →
      holds (literals_of steps) (opposite k) ≡ false → holds (level_of steps) (opposite l) ≡ true
      → AreLevelsGuarded clauses first second steps → AreLevelsGuarded (clauses ++ c ∷ []) (first ++ k ∷ [])
      (second ++ l ∷ []) steps
  levels_level live [] sound a b levels = tt
  levels_level live (s ∷ earlier) sound a b levels =
      search (arith, off_later, both_off, levels_apart, false≢true, holds_cases, (levels_level live earlier sound.1))

level_among : (steps : List Step) (l : Literal) → holds (level_of steps) l ≡ true → holds (literals_of steps) l ≡ true
level_among [] l h = h
level_among (s ∷ earlier) l h =
    search (arith, holds_cases, holds_here, false≢true, holds_later, (level_among earlier l))

module _ (old : Stored) (live : LiveClauses) (steps : List Step) (mid : Trailed) (step : Step)
    (shrunk : Shrunk steps (step ∷ mid.steps)) (sound : IsSound live (step ∷ mid.steps))
    (levels : AreLevelsGuarded old.clauses old.first old.second steps) (marks : List Bool) (id : ℕ) where
  mid_free : IsFree (literals_of mid.steps) step.literal
  mid_free = sound.0.free

  module _ (now : Trailed) (t : Literal) (lands : LandsInLevel mid now step marks id t) where
    abbrev back : List Step
    back = lands.behind.back.steps

    back_free : IsFree (literals_of back) step.literal
    back_free = search (arith, free_suffix, mid_free)

    t_back : holds (literals_of back) t ≡ true
    t_back = level_among back t lands.level.level

    pub t_mid : holds (literals_of mid.steps) t ≡ true
    t_mid = search (arith, among_suffix, t_back)

    pub watches_apart : same_literal (opposite step.literal) (opposite t) ≡ false
    watches_apart = search (arith, same_opposite, cases_Bool, false≢true, same_literal-sound, t_mid)

    pub ready_landed : (new : Stored) (c : List Literal) → new.clauses ≡ old.clauses ++ c ∷ [] →
        IsHeldWatched old new (opposite step.literal) (opposite t)
        → CanPropagate new.clauses new.first new.second now.steps
    ready_landed new c held watched =
        let k = opposite step.literal in
        let l = opposite t in
        let u = lands.under in
        let above : AreLevelsGuarded old.clauses old.first old.second (u.decision ∷ back) =
        levels_later old.clauses old.first old.second u.popped (u.decision ∷ back)
        (subst (AreLevelsGuarded old.clauses old.first old.second) u.is
        (levels_later old.clauses old.first old.second shrunk.popped (step ∷ mid.steps)
        (subst (AreLevelsGuarded old.clauses old.first old.second) shrunk.is levels))) in
        let back_sound : IsSound live back = sound_later live lands.behind.jump.shrunk.popped back
        (subst (IsSound live) lands.behind.jump.shrunk.is sound.1) in
        let k_off : holds (literals_of back) (opposite k) ≡ false =
        ap (holds (literals_of back)) (opposite-opposite step.literal) ∙ back_free.0 in
        let l_on : holds (level_of back) (opposite l) ≡ true =
        ap (holds (level_of back)) (opposite-opposite t) ∙ lands.level.level in
        let now_steps : now.steps ≡ landed step id ∷ back = ap (λ (x : Trailed). x.steps) lands.behind.is in
        let R : List (List Literal) → List Literal → List Literal → List Step → Type 0 = CanPropagate in
        let ready : R (old.clauses ++ c ∷ []) (old.first ++ k ∷ []) (old.second ++ l ∷ []) (landed step id ∷ back) =
        record {
          levels = (
            λ d. absurd (false≢true d),
            levels_level old.clauses old.first old.second c k l watched.count watched.second_count watches_apart live
                back back_sound k_off l_on above.1,
          );
          top = guarded_more old.clauses old.first old.second (literals_of back)
              (k ∷ literals_of back) c k l watched.count watched.second_count watches_apart
              (guarded_grown old.clauses old.first old.second (literals_of back) (literals_of back)
              (k ∷ literals_of back) (λ x h. holds_later k (literals_of back) x h) (above.0 u.decided))
              (λ h. absurd (false≢true (sym k_off ∙ h))) (λ h. holds_here k (literals_of back));
        } in
        rw (held, watched.first, watched.second, now_steps) ready

  pub ready_after : (now : Trailed) (new : Stored) (c : List Literal) (level : Option Literal) →
      MatchOption level (now.steps ≡ []) (λ t. LandsInLevel mid now step marks id t)
      → new.clauses ≡ old.clauses ++ c ∷ [] → IfSome level (λ t. IsHeldWatched old new (opposite step.literal)
      (opposite t)) → CanPropagate new.clauses new.first new.second now.steps
  ready_after now new c None ended held watched = rw ended (record { levels = tt; top = tt })
  ready_after now new c (Some t) ended held watched = ready_landed now t ended new c held watched

  pub watches_held : (now : Trailed) (clause : List Literal) (level : Option Literal) →
      MatchOption level (now.steps ≡ []) (λ t. LandsInLevel mid now step marks id t)
      → ((t : Literal) → holds (literals_of mid.steps) t ≡ true → marked marks (variable_of t) ≡ true →
      holds clause (opposite t) ≡ true)
      → IfSome level (λ t. (holds clause (opposite t) ≡ true) ×
      (same_literal (opposite step.literal) (opposite t) ≡ false))
  watches_held now clause None ended rest = tt
  watches_held now clause (Some t) lands rest = (rest t (t_mid now t lands) lands.level.mark, watches_apart now t lands)

pub held_watched : (level : Option Literal) (old mid new : Stored) (step : Step) → mid.clauses ≡ old.clauses →
    mid.first ≡ old.first → mid.second ≡ old.second
    → IfSome level (λ t. IsHeldWatched mid new (opposite step.literal) (opposite t)) →
    IfSome level (λ t. IsHeldWatched old new (opposite step.literal) (opposite t))
held_watched None old mid new step clauses first second w = tt
held_watched (Some t) old mid new step clauses first second w = search arith
