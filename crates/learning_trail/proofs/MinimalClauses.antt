-- Literals of a learned clause that rest on the others are dropped.
use Rattle.std.proofs.Common.{◌≡◌, ◌≢◌, ℕ, ◌==◌, true, false, not, ◌||◌, ◌&&◌, ◌⊎◌, inl, inr, List, [], ◌∷◌, ◌++◌, length, IfSome, Option, None, Some, refl, sym, ◌∙◌, ap, subst, ◌≤◌, arith}
use Rattle.std.proofs.lemmas.Bool.{false≢true, or_left, or_right, or_cases, and_parts, eq-eqb, ne_eqb, eqb-true}
use Rattle.std.proofs.lemmas.List.{append_assoc}
use Rattle.dq_lits.specs.Literal.{Literal, variable_of, opposite}
use Rattle.dq_lits.specs.Derivation.{LiveClauses, holds, status_of, unit}
use Rattle.dq_lits.proofs.HeldLiterals.{any_gives, holds-append, holds_cases, holds_here}
use Rattle.dq_lits.proofs.SignedLiterals.{opposite_variable, opposite-opposite}
use Rattle.oracle.specs.Fit.{live_in}
use Rattle.learning_trail.specs.declared.trails.Step.{Step}
use Rattle.learning_trail.specs.Steps.{literals_of}
use Rattle.learning_trail.specs.Marks.{marked, stands_on}
use Rattle.learning_trail.specs.Sound.{IsSound}
use Rattle.learning_trail.specs.Noting.{Noted}
use Rattle.learning_trail.specs.Backing.{IsTrimmed, IsRedundant}
use Rattle.dq_lits.proofs.LiteralValues.{free_variable}
use Rattle.learning_trail.proofs.Lessons.{sound_later}
use Rattle.learning_trail.proofs.BacktrackSteps.{leads_past_step, leads_resolved, leads_noted, reason_of, reason_at}

literals-append : (a b : List Step) → literals_of (a ++ b) ≡ literals_of a ++ literals_of b
literals-append [] b = refl
literals-append (s ∷ a) b = ap (λ xs. s.literal ∷ xs) (literals-append a b)

-- one more literal of the done ones
done_cases : (done : List Step) (s : Step) (t : Literal) → holds (literals_of (done ++ s ∷ [])) t ≡ true →
    (holds (literals_of done) t ≡ true) ⊎ (t ≡ s.literal)
done_cases done s t h = search (arith, or_cases, literals-append, holds-append, holds_cases, false≢true)

done_first : (done : List Step) (s : Step) (t : Literal) → holds (literals_of done) t ≡ true →
    holds (literals_of (done ++ s ∷ [])) t ≡ true
done_first done s t h = search (arith, literals-append, holds-append, or_left)

done_last : (done : List Step) (s : Step) → holds (literals_of (done ++ s ∷ [])) s.literal ≡ true
done_last done s = search (arith, literals-append, holds-append, or_right, holds_here)

-- steps stand on different variables
other_variable : (live : LiveClauses) (done rest : List Step) (s : Step) (t : Literal) →
    IsSound live (done ++ s ∷ rest) → holds (literals_of done) t ≡ true → variable_of t ≢ variable_of s.literal
other_variable live [] rest s t sound h = absurd (false≢true h)
other_variable live (d ∷ done) rest s t sound h =
    search (
      arith,
      holds_cases,
      free_variable,
      literals-append,
      holds-append,
      or_right,
      holds_here,
      (other_variable live done rest s t sound.1),
    )

split_more : (steps done rest : List Step) (s : Step) → steps ≡ done ++ s ∷ rest → steps ≡ (done ++ s ∷ []) ++ rest
split_more steps done rest s is = is ∙ sym (append_assoc done (s ∷ []) rest)

pub trimmed_past : (live : LiveClauses) (steps rest : List Step) (was now : Noted) (s : Step) →
    IsTrimmed live steps (s ∷ rest) was now → marked now.marks (variable_of s.literal) ≡ false
    → IsTrimmed live steps rest was now
trimmed_past live steps rest was now s inv unmarked = record {
  len = inv.len;
  done = inv.done ++ s ∷ [];
  split = split_more steps inv.done rest s inv.split;
  fewer = inv.fewer;
  keeps = inv.keeps;
  has = λ t h m. elim (done_cases inv.done s t h) [
    | inl d ↦ inv.has t d m
    | inr e ↦ absurd (false≢true (sym unmarked ∙ ap (λ x. marked now.marks (variable_of x)) (sym e) ∙ m))
  ];
  only = λ l h. elim (inv.only l h) [
    | inl w ↦ inl w
    | inr r ↦ inr (done_first inv.done s (opposite l) r.0, r.1)
  ];
  analysis = leads_past_step live steps rest was now s inv.analysis unmarked;
}

pub trimmed_noted : (live : LiveClauses) (steps rest : List Step) (was now after : Noted) (s : Step) →
    IsSound live steps → IsTrimmed live steps (s ∷ rest) was now
    → marked now.marks (variable_of s.literal) ≡ true
    → after ≡ record {
      marks = now.marks;
      places = now.places;
      hints = now.hints;
      literals =
          now.literals ++ opposite s.literal ∷ [];
    } → IsTrimmed live steps rest was after
trimmed_noted live steps rest was now after s sound inv mark is =
    let sound_here = sound_later live inv.done (s ∷ rest) (subst (IsSound live) inv.split sound) in
    let marks_are : after.marks ≡ now.marks = ap (λ (n : Noted). n.marks) is in
    let more_is : (l : Literal) → holds after.literals l ≡ (holds now.literals l || holds
    (opposite s.literal ∷ []) l) = λ l.
    ap (λ (n : Noted). holds n.literals l) is ∙ holds-append now.literals (opposite s.literal ∷ []) l in
    let still : (l : Literal) → holds now.literals l ≡ true → holds after.literals l ≡ true =
    λ l h. more_is l ∙ or_left (holds now.literals l) (holds (opposite s.literal ∷ []) l) h in
    let back : (v : ℕ) → marked after.marks v ≡ true → marked now.marks v ≡ true =
    λ v m. sym (ap (λ ms. marked ms v) marks_are) ∙ m in
    record {
      len = ap (λ (n : Noted). length n.marks) is ∙ inv.len;
      done = inv.done ++ s ∷ [];
      split = split_more steps inv.done rest s inv.split;
      fewer = λ v m. inv.fewer v (back v m);
      keeps = λ l h. still l (inv.keeps l h);
      has = λ t h m. elim (done_cases inv.done s t h) [
        | inl d ↦ still (opposite t) (inv.has t d (back (variable_of t) m))
        | inr e ↦ more_is (opposite t) ∙ or_right (holds now.literals (opposite t))
            (holds (opposite s.literal ∷ []) (opposite t))
            (ap (λ x. holds (opposite s.literal ∷ []) (opposite x)) e ∙ holds_here (opposite s.literal) [])
      ];
      only = λ l h. elim (or_cases (holds now.literals l) (holds (opposite s.literal ∷ []) l) (sym (more_is l) ∙ h)) [
        | inl k ↦ elim (inv.only l k) [
          | inl w ↦ inl w
          | inr r ↦ inr (done_first inv.done s (opposite l) r.0, ap (λ ms. marked ms (variable_of l)) marks_are ∙ r.1)
        ]
        | inr k ↦ elim (holds_cases (opposite s.literal) [] l k) [
          | inl e ↦ inr (
            ap (λ x. holds (literals_of (inv.done ++ s ∷ [])) (opposite x)) e ∙ ap
                (holds (literals_of (inv.done ++ s ∷ []))) (opposite-opposite s.literal) ∙ done_last inv.done s,
            ap (λ ms. marked ms (variable_of l)) marks_are ∙ ap (λ x. marked now.marks (variable_of x)) e ∙ ap
                (marked now.marks) (opposite_variable s.literal) ∙ mark,
          )
          | inr none ↦ absurd (false≢true none)
        ]
      ];
      analysis = leads_noted live steps rest was now after s inv.analysis sound_here is;
    }

pub trimmed_resolved : (clauses : List (List Literal)) (steps rest : List Step) (was now after : Noted) (s : Step)
    (id : ℕ) → IsSound (live_in clauses) steps
    → IsTrimmed (live_in clauses) steps (s ∷ rest) was now →
    status_of (literals_of rest) (live_in clauses id) ≡ unit s.literal
    → marked now.marks (variable_of s.literal) ≡ true → IsRedundant (live_in clauses) now.marks s id
    → length after.marks ≡ length now.marks → after.hints ≡ now.hints ++ id ∷ [] → after.literals ≡ now.literals
    → ((c : List Literal) (v : ℕ) → live_in clauses id ≡ Some c →
    marked after.marks v ≡ (not (variable_of s.literal == v) && (marked now.marks v || stands_on c v)))
    → IsTrimmed (live_in clauses) steps rest was after
trimmed_resolved clauses steps rest was now after s id sound inv status mark redundant len hints literals marks_are =
    let live = live_in clauses in
    let sound_all = subst (IsSound live) inv.split sound in
    let sound_here = sound_later live inv.done (s ∷ rest) sound_all in
    let r = reason_of clauses id (literals_of rest) s.literal status in
    let back : (v : ℕ) → marked after.marks v ≡ true → marked now.marks v ≡ true = λ v m.
    let p = and_parts (not (variable_of s.literal == v)) (marked now.marks v || stands_on r.clause v)
    (sym (marks_are r.clause v r.is) ∙ m) in
    elim (or_cases (marked now.marks v) (stands_on r.clause v) p.1) [
      | inl h ↦ h
      | inr c ↦
          let k = any_gives (λ x. variable_of x == v) r.clause c in
          let e : variable_of k.0 ≡ v = eqb-true (variable_of k.0) v k.2 in
          ap (marked now.marks) (sym e) ∙ redundant.others r.clause k.0 r.is k.1 (λ same.
          false≢true (sym (ap not (eq-eqb (variable_of s.literal) v (sym same ∙ e))) ∙ p.0))
    ] in
    let stays : (t : Literal) → holds (literals_of inv.done) t ≡ true → marked now.marks (variable_of t) ≡ true →
    marked after.marks (variable_of t) ≡ true = λ t h m.
    let n = other_variable live inv.done rest s t sound_all h in
    marks_are r.clause (variable_of t) r.is ∙ ap (λ b. not b &&
    (marked now.marks (variable_of t) || stands_on r.clause (variable_of t)))
    (ne_eqb (variable_of s.literal) (variable_of t) (λ e. n (sym e)))
    ∙ or_left (marked now.marks (variable_of t)) (stands_on r.clause (variable_of t)) m in
    let still : (l : Literal) → holds after.literals l ≡ holds now.literals l = λ l. ap (λ xs. holds xs l) literals in
    let gone : marked after.marks (variable_of s.literal) ≡ false =
    marks_are r.clause (variable_of s.literal) r.is
    ∙ ap (λ b. not b && (marked now.marks (variable_of s.literal) || stands_on r.clause (variable_of s.literal)))
    (eq-eqb (variable_of s.literal) (variable_of s.literal) refl) in
    record {
      len = len ∙ inv.len;
      done = inv.done ++ s ∷ [];
      split = split_more steps inv.done rest s inv.split;
      fewer = λ v m. inv.fewer v (back v m);
      keeps = λ l h. still l ∙ inv.keeps l h;
      has = λ t h m. elim (done_cases inv.done s t h) [
        | inl d ↦ still (opposite t) ∙ inv.has t d (back (variable_of t) m)
        | inr e ↦ absurd (false≢true (sym gone ∙ ap (λ x. marked after.marks (variable_of x)) (sym e) ∙ m))
      ];
      only = λ l h. elim (inv.only l (sym (still l) ∙ h)) [
        | inl w ↦ inl w
        | inr q ↦ inr (
          done_first inv.done s (opposite l) q.0,
          ap (marked after.marks) (sym (opposite_variable l)) ∙ stays (opposite l) q.0
              (ap (marked now.marks) (opposite_variable l) ∙ q.1),
        )
      ];
      analysis = leads_resolved clauses steps rest was now after s id inv.analysis sound_here status mark hints literals
          marks_are;
    }

pub reason_known : (clauses : List (List Literal)) (rest : List Step) (s : Step) →
    IsSound (live_in clauses) (s ∷ rest) → IfSome s.reason (λ id. (1 ≤ id) × (id ≤ length clauses))
reason_known clauses rest s sound = by s.reason refl
  where
    by : (r : Option ℕ) → s.reason ≡ r → IfSome r (λ id. (1 ≤ id) × (id ≤ length clauses))
    by None e = tt
    by (Some id) e =
        let r = reason_of clauses id (literals_of rest) s.literal
        (reason_at (live_in clauses) (s ∷ rest) rest s id sound refl e) in
        (r.from_one, r.is_id)
