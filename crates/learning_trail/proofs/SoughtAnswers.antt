-- What an answer is sought from.
use Rattle.std.proofs.Common.{◌≡◌, ◌∷◌, ◌++◌, [], ℕ, length, map, reverse, sym, ◌∙◌, ap, subst, arith, List, true, None, Some, not, ◌&&◌, ◌==◌}
use Rattle.dq_lits.specs.Literal.{Literal, variable_of, opposite}
use Rattle.dq_lits.specs.Derivation.{holds, status_of, falsified, unit}
use Rattle.dq_lits.proofs.SignedLiterals.{opposite-opposite}
use Rattle.hint_log.specs.Conditions.{AreNamed, AreIds}
use Rattle.hint_log.specs.Entries.{ProofLog, Answer, with_entry, last_id}
use Rattle.oracle.specs.Calls.{IsRefutedUnder}
use Rattle.oracle.specs.Fit.{live_in}
use Rattle.learning_trail.specs.Resting.{HeldFit}
use Rattle.learning_trail.proofs.RestingClauses.{held_stand}
use Rattle.learning_trail.specs.Analyses.{IsAnalysis, AllStand}
use Rattle.learning_trail.specs.Answering.{IsAnswering, StaysFit}
use Rattle.learning_trail.specs.Backing.{IsKeeping}
use Rattle.learning_trail.specs.Marks.{marked, stands_on}
use Rattle.learning_trail.specs.Noting.{Noted}
use Rattle.learning_trail.specs.Passes.{AreMarkable}
use Rattle.learning_trail.specs.Sound.{AreAssumed}
use Rattle.learning_trail.specs.Steps.{Trailed, literals_of, Shrunk}
use Rattle.learning_trail.specs.declared.trails.Step.{Step}
use Rattle.learning_trail.proofs.BacktrackSteps.{IsReason, reason_of}
use Rattle.learning_trail.proofs.ConflictAnalysis.{analysis_first, analysis_false, sound_consistent}
use Rattle.learning_trail.proofs.LoggedAnswers.{IsConcluded, conclude, answer_named, answer_ids, answer_fit, answer_refuted}
use Rattle.learning_trail.proofs.SearchTurns.{back_sound, back_guided, back_assumed, back_implied, back_reasoned}
use Rattle.learning_trail.proofs.TakenLevels.{conflict_of}
use Rattle.learning_trail.proofs.Taught.{clauses_within}

module _ (assumptions : List Literal) (held : List (List Literal)) (trail : Trailed) (notes : Noted) (log : ProofLog)
    (sought : IsAnswering assumptions held trail notes log) where
  pub sought_markable : AreMarkable (length notes.marks) held
  sought_markable = clauses_within held sought.resting sought.variables (length notes.marks) log.entries sought.fit
      (omega (arith, sought.room, sought.marks))

  pub sought_stand : AllStand log.entries (live_in held)
  sought_stand = held_stand held sought.resting sought.variables log.entries sought.fit

  -- all of the trail is taken back
  pub sought_concluded : (new : Trailed) (now noted : Noted) → AreAssumed assumptions trail.steps →
      ((l : Literal) → holds notes.literals l ≡ true → holds assumptions (opposite l) ≡ true)
      → IsAnalysis log.entries (live_in held) (literals_of trail.steps) (map opposite notes.literals) notes.marks
      (reverse notes.hints)
      → IsKeeping (live_in held) trail new notes now → new.steps ≡ []
      → noted ≡ record {
        marks = now.marks;
        places = now.places;
        hints = reverse now.hints;
        literals =
            reverse now.literals;
      }
      → IsConcluded log.entries (live_in held) assumptions noted
  sought_concluded new now noted assumed negated analysis kept bare turned = search (arith, conclude, sought_stand)

  pub concluded_named : (noted : Noted) → IsConcluded log.entries (live_in held) assumptions noted →
      AreNamed log.entries noted.literals
  concluded_named noted done = search (arith, answer_named)

  pub concluded_ids : (noted : Noted) → IsConcluded log.entries (live_in held) assumptions noted →
      AreIds log.entries noted.hints
  concluded_ids noted done = search (arith, answer_ids)

  pub concluded_refuted : (noted : Noted) → IsConcluded log.entries (live_in held) assumptions noted →
      (new : ProofLog) (id : ℕ)
      → new ≡ with_entry log (Answer noted.literals noted.hints) → id ≡ last_id new.entries →
      IsRefutedUnder log new assumptions id
  concluded_refuted noted done new id is last = search (arith, answer_refuted)

  pub concluded_fit : (noted : Noted) → IsConcluded log.entries (live_in held) assumptions noted →
      (now : List (List Literal)) (new : ProofLog)
      → now ≡ held ++ noted.literals ∷ [] → new ≡ with_entry log (Answer noted.literals noted.hints) →
      StaysFit assumptions held now log new
  concluded_fit noted done now new longer is resting variables awake fit =
      subst (λ (cs : List (List Literal)). HeldFit cs resting variables new.entries) (sym longer)
      (subst (λ (l : ProofLog). HeldFit (held ++ noted.literals ∷ []) resting variables l.entries) (sym is)
      (answer_fit assumptions held resting variables log noted.literals noted.marks noted.hints fit awake sought.named
      done.negated done.analysis))

  -- the notes of a falsified clause
  pub analysis_of_conflict : (conflict : ℕ) (now : Noted) → status_of (literals_of trail.steps) (live_in held conflict)
      ≡ falsified
      → now.hints ≡ conflict ∷ [] → now.literals ≡ [] → ((c : List Literal) (v : ℕ) → live_in held conflict ≡ Some c →
      marked now.marks v ≡ stands_on c v)
      → IsAnalysis log.entries (live_in held) (literals_of trail.steps) (map opposite now.literals) now.marks
      (reverse now.hints)
  analysis_of_conflict conflict now is_false hints literals marks =
      let live = live_in held in
      let trues = literals_of trail.steps in
      let k = conflict_of held conflict trues is_false in
      let first = analysis_first log.entries live now.marks trues k.clause conflict k.is k.false_now
      (λ l m. sought_stand conflict k.clause l k.is m)
      (sound_consistent live trail.steps sought.sound) (λ v. marks k.clause v k.is) in
      subst (λ (ls : List Literal). IsAnalysis log.entries live trues (map opposite ls) now.marks (reverse now.hints))
      (sym literals)
      (subst (λ (hs : List ℕ). IsAnalysis log.entries live trues [] now.marks (reverse hs)) (sym hints) first)

  -- the notes of the clause that made an assumption false
  pub analysis_of_reason : (a : Literal) (reason : ℕ) (now : Noted) →
      status_of (literals_of trail.steps) (live_in held reason) ≡ unit (opposite a)
      → now.hints ≡ reason ∷ [] → now.literals ≡ opposite a ∷ []
      → ((c : List Literal) (v : ℕ) → live_in held reason ≡ Some c →
      marked now.marks v ≡ (not (variable_of a == v) && stands_on c v))
      → IsAnalysis log.entries (live_in held) (literals_of trail.steps) (map opposite now.literals) now.marks
      (reverse now.hints)
  analysis_of_reason a reason now implied hints literals marks =
      let live = live_in held in
      let trues = literals_of trail.steps in
      let k = reason_of held reason trues (opposite a) implied in
      let first = analysis_false log.entries live now.marks trues k.clause a reason k.is k.implied
      (λ l m. sought_stand reason k.clause l k.is m)
      (sound_consistent live trail.steps sought.sound) (λ v. marks k.clause v k.is) in
      let kept : map opposite now.literals ≡ a ∷ [] = ap (map opposite) literals ∙ ap (λ l. l ∷ [])
      (opposite-opposite a) in
      subst (λ (ks : List Literal). IsAnalysis log.entries live trues ks now.marks (reverse now.hints)) (sym kept)
      (subst (λ (hs : List ℕ). IsAnalysis log.entries live trues (a ∷ []) now.marks (reverse hs)) (sym hints) first)

  module _ (new : Trailed) (step : Step) (a : Literal) (shrunk : Shrunk trail.steps (step ∷ new.steps))
      (still : holds (literals_of (step ∷ new.steps)) (opposite a) ≡ true)
      (same : variable_of step.literal ≡ variable_of a) (assumed : holds assumptions a ≡ true) where
    -- what stands below the step that made an assumption false
    pub below_sought : (now : Noted) → new.room ≡ trail.room → length now.marks ≡ length notes.marks →
        IsAnswering assumptions held new now log
    below_sought now room marks = record {
      variables = sought.variables;
      resting = sought.resting;
      fit = sought.fit;
      awake = sought.awake;
      sound = (back_sound log.entries held assumptions trail.steps new.steps step a sought.sound sought.guided shrunk
          still same assumed).1;
      guided = (back_guided log.entries held assumptions trail.steps new.steps step a sought.sound sought.guided shrunk
          still same assumed).1;
      room = let k = sought.room in omega (arith, k, room);
      marks = let k = sought.marks in omega (arith, k, room, marks);
      named = sought.named;
    }

    pub below_assumed : AreAssumed assumptions new.steps
    below_assumed = (back_assumed log.entries held assumptions trail.steps new.steps step a sought.sound sought.guided
        shrunk still same assumed).1

    pub below_implied : (reason : ℕ) → step.reason ≡ Some reason →
        status_of (literals_of new.steps) (live_in held reason) ≡ unit (opposite a)
    below_implied reason is = search (arith, back_implied)

    pub below_id : (reason : ℕ) → step.reason ≡ Some reason → IsReason held reason (literals_of new.steps) (opposite a)
    below_id reason is = reason_of held reason (literals_of new.steps) (opposite a) (below_implied reason is)

    pub below_reasoned : step.reason ≡ None → ⊥
    below_reasoned none = search (arith, back_reasoned)
