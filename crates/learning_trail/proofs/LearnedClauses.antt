-- The clause that is taught, from the first point and what was noted below it.
use Rattle.std.proofs.Common.{◌≡◌, ℕ, Bool, true, false, not, ◌⊎◌, inl, inr, List, [], ◌∷◌, ◌++◌, map, reverse, refl, sym, ◌∙◌, ap, subst, arith}
use Rattle.std.proofs.lemmas.Bool.{false≢true, false_from_ne_true}
use Rattle.std.proofs.lemmas.List.{append-nil}
use Rattle.std.proofs.lemmas.List.Sorted.{list_any-IsPermutation, IsPermutation-reverse}
use Rattle.dq_lits.specs.Literal.{Literal, variable_of, is_negative, opposite, same_literal}
use Rattle.dq_lits.specs.Derivation.{LiveClauses, holds}
use Rattle.dq_lits.proofs.SignedLiterals.{opposite_variable, opposite-opposite, opposite-negative}
use Rattle.dq_lits.proofs.HeldLiterals.{holds_cases, holds_here, holds_later, holds-map}
use Rattle.hint_log.specs.Entries.{Entry}
use Rattle.hint_log.specs.Naming.{is_selector}
use Rattle.learning_trail.specs.declared.trails.Step.{Step}
use Rattle.learning_trail.specs.Steps.{Trailed, literals_of}
use Rattle.learning_trail.specs.Marks.{marked, is_level_marked}
use Rattle.learning_trail.specs.Sound.{IsSound}
use Rattle.learning_trail.specs.Noting.{Noted}
use Rattle.learning_trail.specs.Analyses.{IsAnalysis, AllStand}
use Rattle.learning_trail.specs.Backing.{IsFirstPoint, IsTrimmed}
use Rattle.learning_trail.specs.Lessons.{IsLesson}
use Rattle.learning_trail.proofs.ConflictAnalysis.{analysis_same}
use Rattle.learning_trail.proofs.BacktrackSteps.{level_kept, leads_noted}

pub holds-reverse : (xs : List Literal) (l : Literal) → holds (reverse xs) l ≡ holds xs l
holds-reverse xs l = sym (list_any-IsPermutation (same_literal l) xs (reverse xs) (IsPermutation-reverse xs))

kept-reverse : (xs : List Literal) (t : Literal) → holds (map opposite (reverse xs)) t ≡ holds (map opposite xs) t
kept-reverse xs t =
    ap (holds (map opposite (reverse xs))) (sym (opposite-opposite t)) ∙ holds-map (reverse xs) (opposite t)
    ∙ holds-reverse xs (opposite t)
    ∙ sym (holds-map xs (opposite t)) ∙ ap (holds (map opposite xs)) (opposite-opposite t)

-- what is noted, turned round
pub analysis_turned : (entries : List Entry) (live : LiveClauses) (n turned : Noted) →
    turned ≡ record { marks = n.marks; places = n.places; hints = reverse n.hints; literals = reverse n.literals }
    → IsAnalysis entries live [] (map opposite n.literals) n.marks (reverse n.hints) →
    IsAnalysis entries live [] (map opposite turned.literals) turned.marks turned.hints
analysis_turned entries live n turned is analysis =
    subst (λ (m : Noted). IsAnalysis entries live [] (map opposite m.literals) m.marks m.hints) (sym is)
    (analysis_same entries live n.marks [] (map opposite n.literals) (map opposite (reverse n.literals))
    (reverse n.hints) (kept-reverse n.literals) analysis)

module _ (live : LiveClauses) (old mid : Trailed) (step : Step) (begun found added left noted : Noted)
    (sound : IsSound live (step ∷ mid.steps)) (empty : begun.literals ≡ [])
    (begins : (entries : List Entry) → AllStand entries live →
    IsAnalysis entries live (literals_of old.steps) [] begun.marks (reverse begun.hints))
    (point : IsFirstPoint live old mid step begun found)
    (adds : added ≡ record {
      marks = found.marks;
      places = found.places;
      hints = found.hints;
      literals =
          found.literals ++ opposite step.literal ∷ [];
    })
    (trimmed : IsTrimmed live mid.steps [] added left)
    (turned : noted ≡ record {
      marks = left.marks;
      places = left.places;
      hints = reverse left.hints;
      literals =
          reverse left.literals;
    }) where
  added_is : added.literals ≡ opposite step.literal ∷ []
  added_is = ap (λ (n : Noted). n.literals) adds ∙ ap (λ ls. ls ++ opposite step.literal ∷ []) (point.literals ∙ empty)

  done_all : mid.steps ≡ trimmed.done
  done_all = trimmed.split ∙ append-nil trimmed.done

  marks_are : (v : ℕ) → marked noted.marks v ≡ marked left.marks v
  marks_are v = ap (λ (n : Noted). marked n.marks v) turned

  literals_are : (l : Literal) → holds noted.literals l ≡ holds left.literals l
  literals_are l = ap (λ (n : Noted). holds n.literals l) turned ∙ holds-reverse left.literals l

  fewer : (v : ℕ) → marked noted.marks v ≡ true → marked found.marks v ≡ true
  fewer v m = sym (ap (λ (n : Noted). marked n.marks v) adds) ∙ trimmed.fewer v (sym (marks_are v) ∙ m)

  first_is : begun.literals ≡ [] → (entries : List Entry) → AllStand entries live →
      IsAnalysis entries live (literals_of old.steps) (map opposite begun.literals) begun.marks (reverse begun.hints)
  first_is e entries stand = subst (λ (ls : List Literal). IsAnalysis entries live (literals_of old.steps)
      (map opposite ls) begun.marks (reverse begun.hints)) (sym e) (begins entries stand)

  only : (l : Literal) → holds noted.literals l ≡ true → (l ≡ opposite step.literal) ⊎
      ((holds (literals_of mid.steps) (opposite l) ≡ true) × (marked noted.marks (variable_of l) ≡ true))
  only l h = search (arith, literals_are, holds_cases, added_is, false≢true, done_all, marks_are)

  -- the literals of the clause were marked where the first point was found
  on_trail : (l : Literal) → holds noted.literals l ≡ true →
      (holds (literals_of (step ∷ mid.steps)) (opposite l) ≡ true) × (marked found.marks (variable_of l) ≡ true)
  on_trail l h = elim (only l h) [
    | inl e ↦ (
      ap (λ x. holds (literals_of (step ∷ mid.steps)) (opposite x)) e ∙ ap (holds (literals_of (step ∷ mid.steps)))
          (opposite-opposite step.literal) ∙ holds_here step.literal (literals_of mid.steps),
      ap (λ x. marked found.marks (variable_of x)) e ∙ ap (marked found.marks) (opposite_variable step.literal)
          ∙ point.mark,
    )
    | inr r ↦ (holds_later step.literal (literals_of mid.steps) (opposite l) r.0, fewer (variable_of l) r.1)
  ]

  pub lesson_made : IsLesson live old mid step noted.marks noted.literals noted.hints
  lesson_made = record {
    room = point.room;
    shrunk = point.shrunk;
    first = λ implied. false_from_ne_true (is_level_marked noted.marks mid.steps) (λ some.
        false≢true (sym (point.first implied) ∙ level_kept noted.marks found.marks mid.steps
        (λ t on m. fewer (variable_of t) m) some));
    level = point.level;
    has_first = literals_are (opposite step.literal) ∙ trimmed.keeps (opposite step.literal)
        (ap (λ ls. holds ls (opposite step.literal)) added_is ∙ holds_here (opposite step.literal) []);
    has_rest = λ t on m. literals_are (opposite t) ∙ trimmed.has t
        (ap (λ xs. holds (literals_of xs) t) (sym done_all) ∙ on) (sym (marks_are (variable_of t)) ∙ m);
    only = only;
    negated = λ entries stand l h sel.
        let t = on_trail l h in
        let plain = (point.analysis entries stand (first_is empty entries stand)).plain (opposite l) t.0
        (ap (marked found.marks) (opposite_variable l) ∙ t.1)
        (ap (is_selector entries) (opposite_variable l) ∙ sel) in
        negated_back (is_negative l) (sym (opposite-negative l) ∙ plain);
    analysis = λ entries stand. analysis_turned entries live left noted turned
        (trimmed.analysis entries stand (leads_noted live old.steps mid.steps begun found added step point.analysis
        sound adds entries stand (first_is empty entries stand)));
  }
    where
      negated_back : (b : Bool) → not b ≡ false → b ≡ true
      negated_back true e = refl
      negated_back false e = absurd (false≢true (sym e))
