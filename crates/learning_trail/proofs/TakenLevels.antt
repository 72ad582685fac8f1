-- Levels are taken back.
use Rattle.std.proofs.Common.{◌≡◌, ℕ, suc, ◌<◌, ◌≤◌, Bool, true, false, cond, List, [], ◌∷◌, ◌++◌, length, Option, Some, None, IsSome, is_some, zero, refl, sym, ◌∙◌, ap, subst, arith}
use Rattle.std.proofs.lemmas.Bool.{false≢true, true_from_ne_false}
use Rattle.std.proofs.lemmas.List.{append_assoc}
use Rattle.std.proofs.lemmas.Option.{slice_get_within}
use Rattle.dq_lits.specs.Literal.{Literal, variable_of, opposite}
use Rattle.dq_lits.specs.Derivation.{LiveClauses, falsified, stuck, holds, status_of}
use Rattle.dq_lits.proofs.SignedLiterals.{opposite_variable}
use Rattle.oracle.specs.Fit.{live_in}
use Rattle.learning_trail.specs.declared.trails.Step.{Step}
use Rattle.learning_trail.specs.Steps.{is_none as reason_none, Trailed, literals_of, is_decision, decision_of, under_level, Shrunk, IsUnder}
use Rattle.learning_trail.specs.Marks.{marked, is_level_marked}
use Rattle.learning_trail.specs.Sound.{IsSound}
use Rattle.learning_trail.specs.Lessons.{IsJump}
use Rattle.learning_trail.proofs.StatusLaws.{is_falsified, falsified_tells}
use Rattle.learning_trail.proofs.Lessons.{below_closed, below_marked}

pub under_shrunk : (steps : List Step) → Shrunk steps (under_level steps)
under_shrunk [] = record { popped = []; is = refl }
under_shrunk (s ∷ steps) = by (is_decision s) (under_shrunk steps)
  where
    by : (b : Bool) → Shrunk steps (under_level steps) → Shrunk (s ∷ steps) (cond b steps (under_level steps))
    by true rest = record { popped = s ∷ []; is = refl }
    by false rest = record { popped = s ∷ rest.popped; is = ap (λ xs. s ∷ xs) rest.is }

pub under_shorter : (steps : List Step) → IsSome (decision_of steps) → length (under_level steps) < length steps
under_shorter [] some = absurd (false≢true some)
under_shorter (s ∷ steps) some = search (arith, (under_shorter steps))

-- a way so far
pub record IsOnJump (old new : Trailed) (marks : List Bool) : Type 0 where
  pub room : new.room ≡ old.room
  pub shrunk : Shrunk old.steps new.steps
  pub kept : (t : Literal) → holds (literals_of old.steps) t ≡ true → marked marks (variable_of t) ≡ true →
      holds (literals_of new.steps) t ≡ true

pub on_jump_first : (old : Trailed) (marks : List Bool) → IsOnJump old old marks
on_jump_first old marks = record { room = refl; shrunk = record { popped = []; is = refl }; kept = λ t on m. on }

pub on_jump_level : (old now new : Trailed) (marks : List Bool) → IsOnJump old now marks →
    is_level_marked marks now.steps ≡ false → new.room ≡ now.room → new.steps ≡ under_level now.steps
    → IsOnJump old new marks
on_jump_level old now new marks inv none room steps =
    let under = subst (Shrunk now.steps) (sym steps) (under_shrunk now.steps) in
    record {
      room = room ∙ inv.room;
      shrunk = record {
        popped = inv.shrunk.popped ++ under.popped;
        is =
            inv.shrunk.is ∙ ap (λ xs. inv.shrunk.popped ++ xs) under.is ∙ sym
            (append_assoc inv.shrunk.popped under.popped new.steps);
      };
      kept = λ t on m. subst (λ (xs : List Step). holds (literals_of xs) t ≡ true) (sym steps)
          (below_marked marks now.steps t none (inv.kept t on m) m);
    }

pub jump_both : (old now new : Trailed) (marks : List Bool) → IsOnJump old now marks → IsJump now new marks →
    IsJump old new marks
jump_both old now new marks a b = record {
  room = b.room ∙ a.room;
  shrunk = record {
    popped = a.shrunk.popped ++ b.shrunk.popped;
    is =
        a.shrunk.is ∙ ap (λ xs. a.shrunk.popped ++ xs) b.shrunk.is ∙ sym
        (append_assoc a.shrunk.popped b.shrunk.popped new.steps);
  };
  kept = λ t on m. b.kept t (a.kept t on m) m;
  ended = b.ended;
}

-- a falsified clause has a literal in the newest level, since propagation had come to its end before
pub conflict_marked : (live : LiveClauses) (steps : List Step) (marks : List Bool) (clause : List Literal) (id : ℕ)
    (d : Literal) → IsSound live steps → decision_of steps ≡ Some d
    → live id ≡ Some clause → status_of (literals_of steps) (Some clause) ≡ falsified →
    ((l : Literal) → holds clause l ≡ true → marked marks (variable_of l) ≡ true)
    → is_level_marked marks steps ≡ true
conflict_marked live steps marks clause id d sound decided is false_now marks_are =
    true_from_ne_false (is_level_marked marks steps) (λ none.
    let below = is_falsified (literals_of (under_level steps)) clause (λ l m.
    below_marked marks steps (opposite l) none (falsified_tells (literals_of steps) clause false_now l m)
    (ap (marked marks) (opposite_variable l) ∙ marks_are l m)) in
    let closed = sym (ap (status_of (literals_of (under_level steps))) is)
    ∙ below_closed live steps d sound decided id in
    let clash : falsified ≡ stuck = sym below ∙ closed in
    cc)

-- the clause of a conflict
pub record IsConflict (clauses : List (List Literal)) (id : ℕ) (trues : List Literal) : Type 0 where
  pub from_one : 1 ≤ id
  pub is_id : id ≤ length clauses
  pub clause : List Literal
  pub is : live_in clauses id ≡ Some clause
  pub false_now : status_of trues (Some clause) ≡ falsified

pub conflict_of : (clauses : List (List Literal)) (id : ℕ) (trues : List Literal) →
    status_of trues (live_in clauses id) ≡ falsified → IsConflict clauses id trues
conflict_of clauses zero trues h = let n : stuck ≡ falsified = h in cc
conflict_of clauses (suc i) trues h = search (arith, slice_get_within)

-- levels under one another
pub under_is : (steps : List Step) → IsSome (decision_of steps) → IsUnder steps (under_level steps)
under_is [] some = absurd (false≢true some)
under_is (s ∷ steps) some = by (is_decision s) refl (under_is steps) some
  where
    by : (b : Bool) → is_decision s ≡ b → (IsSome (decision_of steps) → IsUnder steps (under_level steps)) →
        IsSome (cond b (Some s.literal) (decision_of steps)) → IsUnder (s ∷ steps) (cond b steps (under_level steps))
    by true e rest h = record { popped = []; decision = s; decided = e; is = refl }
    by false e rest h = let r = rest h in record {
      popped = s ∷ r.popped;
      decision = r.decision;
      decided = r.decided;
      is = ap (λ xs. s ∷ xs) r.is;
    }

pub under_both : (a b c : List Step) → IsUnder a b → IsUnder b c → IsUnder a c
under_both a b c f g = record {
  popped = f.popped ++ f.decision ∷ g.popped;
  decision = g.decision;
  decided = g.decided;
  is = f.is ∙ ap (λ xs. f.popped ++ f.decision ∷ xs) g.is ∙ sym
      (append_assoc f.popped (f.decision ∷ g.popped) (g.decision ∷ c));
}

pub under_next : (steps now new : List Step) → IsUnder steps now → IsSome (decision_of now) → new ≡ under_level now →
    IsUnder steps new
under_next steps now new f some is = under_both steps now new f (subst (IsUnder now) (sym is) (under_is now some))

pub under_decision : (step : Step) (steps : List Step) → is_decision step ≡ true → IsUnder (step ∷ steps) steps
under_decision step steps decided = record { popped = []; decision = step; decided = decided; is = refl }

pub under_step : (step : Step) (steps new : List Step) → is_decision step ≡ false →
    IsSome (decision_of (step ∷ steps)) → new ≡ under_level steps → IsUnder (step ∷ steps) new
under_step step steps new implied some is =
    subst (IsUnder (step ∷ steps)) (ap (λ b. cond b steps (under_level steps)) implied ∙ sym is)
    (under_is (step ∷ steps) some)

pub implied_from_some : (r : Option ℕ) → is_some r ≡ true → reason_none r ≡ false
implied_from_some None h = sym h
implied_from_some (Some id) h = refl

pub decided_from_none : (r : Option ℕ) → is_some r ≡ false → reason_none r ≡ true
decided_from_none None h = refl
decided_from_none (Some id) h = sym h
