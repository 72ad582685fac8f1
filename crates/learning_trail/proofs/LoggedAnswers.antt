-- An answer goes into the log.
use Rattle.std.proofs.Common.{reverse, subst, ◌≡◌, ℕ, Bool, true, List, [], ◌∷◌, ◌++◌, map, is_some, sym, ◌∙◌, ap, arith}
use Rattle.std.proofs.lemmas.Bool.{false≢true}
use Rattle.dq_lits.specs.Literal.{Literal, variable_of, opposite}
use Rattle.dq_lits.specs.Derivation.{LiveClauses, holds}
use Rattle.dq_lits.proofs.SignedLiterals.{opposite_variable, opposite-negative}
use Rattle.hint_log.specs.Entries.{Answer}
use Rattle.hint_log.specs.Conditions.{AreNamed, AreIds}
use Rattle.hint_log.specs.Entries.{ProofLog, with_entry, last_id}
use Rattle.hint_log.specs.Naming.{is_selector}
use Rattle.oracle.specs.Fit.{live_in}
use Rattle.oracle.specs.Searched.{Stands}
use Rattle.oracle.specs.Calls.{IsRefutedUnder}
use Rattle.hint_log.specs.Entries.{Entry}
use Rattle.learning_trail.specs.declared.trails.Step.{Step}
use Rattle.learning_trail.specs.Steps.{Trailed, literals_of}
use Rattle.learning_trail.specs.Sound.{AreAssumed}
use Rattle.learning_trail.specs.Noting.{Noted}
use Rattle.learning_trail.specs.Backing.{IsKeeping}
use Rattle.learning_trail.specs.Analyses.{IsAnalysis, AllStand}
use Rattle.learning_trail.specs.Resting.{HeldFit, AreAwake}
use Rattle.learning_trail.specs.Searching.{AreAssumptions}
use Rattle.learning_trail.proofs.AnswerClauses.{concluded_derived, concluded_tied}
use Rattle.learning_trail.proofs.Taught.{all_named, all_ids}
use Rattle.learning_trail.proofs.FitLogs.{held_answered}
use Rattle.learning_trail.proofs.LearnedClauses.{holds-reverse, analysis_turned}

module _ (assumptions : List Literal) (held : List (List Literal)) (resting : List Bool) (variables : ℕ) (log : ProofLog)
    (clause : List Literal) (marks : List Bool) (hints : List ℕ)
    (fit : HeldFit held resting variables log.entries) (awake : AreAwake resting assumptions)
    (assumed : AreAssumptions log assumptions)
    (negated : (l : Literal) → holds clause l ≡ true → holds assumptions (opposite l) ≡ true)
    (analysis : IsAnalysis log.entries (live_in held) [] (map opposite clause) marks hints) where
  pub answer_stands : (l : Literal) → holds clause l ≡ true → Stands log.entries l
  answer_stands l h = search (arith, is_some, opposite_variable, opposite-negative, false≢true)

  pub answer_named : AreNamed log.entries clause
  answer_named = all_named log.entries clause answer_stands

  pub answer_ids : AreIds log.entries hints
  answer_ids = all_ids held resting variables log.entries hints fit analysis.ids

  active : (l : Literal) → holds clause l ≡ true → is_selector log.entries (variable_of l) ≡ true →
      holds assumptions (opposite l) ≡ true
  active l h sel = negated l h

  pub answer_fit : HeldFit (held ++ clause ∷ []) resting variables (Answer clause hints ∷ log.entries)
  answer_fit =
      search (
        arith,
        held_answered,
        answer_named,
        answer_ids,
        concluded_derived,
        active,
        concluded_tied,
        answer_stands,
      )

  pub answer_refuted : (new : ProofLog) (id : ℕ) → new ≡ with_entry log (Answer clause hints) →
      id ≡ last_id new.entries → IsRefutedUnder log new assumptions id
  answer_refuted new id is last = search arith

-- where the whole trail was taken back
pub record IsConcluded (es : List Entry) (live : LiveClauses) (assumptions : List Literal)
    (noted : Noted) : Type 0 where
  pub negated : (l : Literal) → holds noted.literals l ≡ true → holds assumptions (opposite l) ≡ true
  pub analysis : IsAnalysis es live [] (map opposite noted.literals) noted.marks noted.hints

pub conclude : (es : List Entry) (live : LiveClauses) (assumptions : List Literal) (old new : Trailed)
    (was now noted : Noted) → AllStand es live → AreAssumed assumptions old.steps
    → ((l : Literal) → holds was.literals l ≡ true → holds assumptions (opposite l) ≡ true)
    → IsAnalysis es live (literals_of old.steps) (map opposite was.literals) was.marks (reverse was.hints) →
    IsKeeping live old new was now → new.steps ≡ []
    → noted ≡ record {
      marks = now.marks;
      places = now.places;
      hints = reverse now.hints;
      literals =
          reverse now.literals;
    } → IsConcluded es live assumptions noted
conclude es live assumptions old new was now noted stand assumed negated analysis keeping bare turned = record {
  negated = λ l h. (keeping.negated assumptions assumed negated).1 l
      (sym (holds-reverse now.literals l) ∙ ap (λ (n : Noted). holds n.literals l) (sym turned) ∙ h);
  analysis = analysis_turned es live now noted turned
      (subst (λ (xs : List Step). IsAnalysis es live (literals_of xs) (map opposite now.literals) now.marks
      (reverse now.hints)) bare (keeping.analysis es stand analysis));
}
