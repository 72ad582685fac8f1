-- From what a run's parts answer to what is due, and why.
use Rattle.std.proofs.Common.{◌≡◌, ◌≢◌, ◌⊎◌, inl, inr, ℕ, ◌<◌, ◌≤◌, List, Option, None, Some, Result, Ok, Err, refl, sym, ap, ◌∙◌, subst, arith, codes}
use Rattle.std.specs.Prelude.{IfOk}
use Rattle.dq_io.specs.Causes.{next_count, Rose}
use Rattle.dq_io.specs.Files.{Absent}
use Rattle.dq_io.specs.State.{FilesState}
use Rattle.dq_lits.specs.Formula.{Dqbf}
use Rattle.dq_lits.specs.declared.memory.Memory.{Memory}
use Rattle.dq_runs.specs.Ending.{IsEnd, Ends, HasCauses}
use Rattle.dq_runs.specs.FileTexts.{IsLong, IsUnreadable, IsTooLong, PickedOnce, PickedTwice}
use Rattle.dq_runs.specs.FormulaFiles.{IsFormulaOf, IsNoFormula}
use Rattle.dq_runs.specs.Printed.{Printed, printed, unreadable_line, long_line}
use Rattle.dq_runs.specs.Sinks.{SinkState}
use Rattle.dq_runs.specs.declared.formulas.NoFormula.{NoFormula}
use Rattle.dq_runs.specs.declared.formulas.NoFormula.TheVariants.{Unreadable, TooLong, Refused as RefusedFormula}
use Rattle.dq_runs.specs.declared.outputs.Output.{Output}
use Rattle.cert_judge.specs.declared.answers.Judgement.{Judgement}
use Rattle.cert_judge.specs.declared.answers.Judgement.TheVariants.{Refused, UndeclaredRead, BadRow, Unproved, UnderivedStep, NoEmptyClause, ValidTrue, ValidFalse, BadBlock, ValidDefinitions}
use Rattle.dqcheck_words.specs.Command.{Command}
use Rattle.dqcheck_core.specs.Outputs.{IsReported, IsDueBehind, IsReportedBehind}
use Rattle.dqcheck_core.specs.Report.{Report, no_formula, unreadable_certificate, long_certificate, judged, printed_report, answer_status}
use Rattle.dqcheck_core.specs.Running.{max_certificate, IsAnswerTo, IsDueFor, IsDue}
use Rattle.dq_runs.proofs.SaidFormulas.{status_of, said_rightly}

-- ---- one file behind another

rose_earlier : (before mid now : ℕ) → before ≤ mid → Rose mid now → Rose before now
rose_earlier before mid now later rose = omega arith

-- the formula's file was picked, between these states
pub record Picks (before now : FilesState) : Type 0 where
  pub held : now.held ≡ before.held
  pub reliable : now.reliable ≡ before.reliable
  pub picked : PickedOnce before now
  pub later : before.faults ≤ now.faults
  pub unfaulted : now.faults ≡ before.faults

unreadable_behind : (before mid now : FilesState) (name : List ℕ) → Picks before mid → IsUnreadable mid now name →
    IsUnreadable before now name
unreadable_behind before mid now name picks u = record {
  counted = rose_earlier before.faults mid.faults now.faults picks.later u.counted;
  absent = λ told. subst (λ held. held name ≡ Absent) picks.held (u.absent (picks.reliable ∙ told));
}

twice : (before mid now : FilesState) → Picks before mid → PickedOnce mid now → PickedTwice before now
twice before mid now picks once = once ∙ ap next_count picks.picked

due_behind : (before mid now : FilesState) (c : Command) (f : Dqbf) (p : Printed) → Picks before mid →
    IsFormulaOf (before.held c.formula) f
    → PickedOnce mid now → IsDueBehind mid now c.certificate f p → IsDue before now (Some c) p
due_behind before mid now c f p picks one once (inl (unreadable, same)) = (
  unreadable_certificate,
  (
    f,
    one,
    unreadable_behind before mid now c.certificate picks unreadable,
    twice before mid now picks once,
  ),
  same,
)
due_behind before mid now c f p picks one once (inr (inl (long, same))) = (
  long_certificate,
  (
    f,
    one,
    record {
      long = subst (λ held. IsLong max_certificate (held c.certificate)) picks.held
          long.long;
      given = long.given;
    },
    twice before mid now picks once,
  ),
  same,
)
due_behind before mid now c f p picks one once (inr (inr (answer, told, same))) = (
  judged f answer,
  (
    one,
    subst (λ held. IsAnswerTo f (held c.certificate) answer) picks.held told,
    twice before mid now picks once,
  ),
  same,
)

pub reported_behind : (before mid now : FilesState) (c : Command) (f : Dqbf) (r : Result Output Memory) →
    Picks before mid → IsFormulaOf (before.held c.formula) f
    → IfOk r (IsReportedBehind mid now c.certificate f) → IfOk r (IsReported before now (Some c))
reported_behind before mid now c f (Ok output) picks one o = record {
  due = due_behind before mid now c f (printed output) picks one o.picked o.due;
  long = o.long;
  unfaulted = λ other. o.unfaulted other ∙ picks.unfaulted;
}
reported_behind before mid now c f (Err _) picks one o = tt

-- ---- the parts

-- the certificate can't be read
pub unreadable_reported : (before now : FilesState) (name : List ℕ) (f : Dqbf) (r : Result Output Memory) →
    IsUnreadable before now name → PickedOnce before now
    → IfOk r (λ output. printed output ≡ unreadable_line) → IfOk r (IsReportedBehind before now name f)
unreadable_reported before now name f (Ok output) unreadable once same = record {
  due = inl (unreadable, same);
  picked = once;
  long = λ six. let three = status_of output unreadable_line same in absurd (omega (arith, six, three));
  unfaulted = λ other. absurd (other (status_of output unreadable_line same));
}
unreadable_reported before now name f (Err _) unreadable once same = tt

pub long_reported : (before now : FilesState) (name : List ℕ) (f : Dqbf) (r : Result Output Memory) →
    IsTooLong max_certificate before now name → PickedOnce before now
    → now.faults ≡ before.faults → IfOk r (λ output. printed output ≡ long_line (codes "certificate")) →
    IfOk r (IsReportedBehind before now name f)
long_reported before now name f (Ok output) long once unfaulted same = record {
  due = inr (inl (long, same));
  picked = once;
  long = λ _. let given = long.given in omega (arith, given);
  unfaulted = λ _. unfaulted;
}
long_reported before now name f (Err _) long once unfaulted same = tt

-- an answer's status is 0, or over those that all commands share
status_apart : (answer : Judgement) → (answer_status answer ≡ 0) ⊎ (6 < answer_status answer)
status_apart (Refused l name) = inr (omega arith)
status_apart (UndeclaredRead y x) = inr (omega arith)
status_apart (BadRow k) = inr (omega arith)
status_apart (Unproved n) = inr (omega arith)
status_apart (UnderivedStep id) = inr (omega arith)
status_apart NoEmptyClause = inr (omega arith)
status_apart ValidTrue = inl refl
status_apart ValidFalse = inl refl
status_apart (BadBlock fault) = inr (omega arith)
status_apart (ValidDefinitions counts) = inl refl

not_long : (answer : Judgement) → answer_status answer ≡ 6 → ⊥
not_long answer same = elim (status_apart answer) [
  | inl zero ↦ omega (arith, same, zero)
  | inr high ↦
      omega (arith, same, high)
]

-- the certificate was judged
pub judged_reported : (before now : FilesState) (name : List ℕ) (f : Dqbf) (answer : Judgement)
    (r : Result Output Memory) → IsAnswerTo f (before.held name) answer
    → PickedOnce before now → now.faults ≡ before.faults → IfOk r
    (λ output. printed output ≡ printed_report (judged f answer)) → IfOk r (IsReportedBehind before now name f)
judged_reported before now name f answer (Ok output) told once unfaulted same = record {
  due = inr (inr (answer, told, same));
  picked = once;
  long = λ six. absurd (not_long answer (sym (status_of output (printed_report (judged f answer)) same) ∙ six));
  unfaulted = λ _. unfaulted;
}
judged_reported before now name f answer (Err _) told once unfaulted same = tt

-- the formula's file gives none
pub said_reported : (before now : FilesState) (c : Command) (said : NoFormula) (r : Result Output Memory) →
    IsNoFormula before now c.formula said → PickedOnce before now
    → (said ≢ Unreadable → now.faults ≡ before.faults) → IfOk r
    (λ output. printed output ≡ printed_report (no_formula said)) → IfOk r (IsReported before now (Some c))
said_reported before now c said (Ok output) is once unfaulted same =
    let rightly = said_rightly before now c.formula said output is unfaulted same in record {
      due = (no_formula said, (is, once), same);
      long = rightly.long;
      unfaulted = rightly.unfaulted;
    }
said_reported before now c said (Err _) is once unfaulted same = tt

-- ---- the run

pub ends : (before now : FilesState) (asked : Option Command) (sink sink_now : SinkState) (r : Result Output Memory)
    (status : ℕ)
    → IfOk r (IsReported before now asked) → IsEnd r sink sink_now status →
    Ends (IsDue before now asked) sink sink_now status
ends before now asked sink sink_now (Ok output) status o end =
    inr (record { printed = printed output; is_due = o.due; delivered = end })
ends before now asked sink sink_now (Err _) status o end = inl end

-- which statuses a report has
record Reasons (before now : FilesState) (asked : Option Command) (status : ℕ) : Type 0 where
  pub words : status ≡ 1 → asked ≡ None
  pub source : status ≡ 3 → Rose before.faults now.faults
  pub delivered : status ≢ 4
  pub made : status ≢ 5

-- that no cause is due for
apart_reasons : (before now : FilesState) (c : Command) (status : ℕ) → (status ≡ 0) ⊎ (6 < status) →
    Reasons before now (Some c) status
apart_reasons before now c status (inl zero) = record {
  words = λ h. absurd (omega (arith, h, zero));
  source = λ h. absurd (omega (arith, h, zero));
  delivered = λ h. omega (arith, h, zero);
  made = λ h. omega (arith, h, zero);
}
apart_reasons before now c status (inr high) = record {
  words = λ h. absurd (omega (arith, h, high));
  source = λ h. absurd (omega (arith, h, high));
  delivered = λ h. omega (arith, h, high);
  made = λ h. omega (arith, h, high);
}

report_reasons : (before now : FilesState) (c : Command) (report : Report) → IsDueFor before now c report →
    Reasons before now (Some c) ((printed_report report).status)
report_reasons before now c (no_formula Unreadable) due = record {
  words = λ h. absurd (omega (arith, h));
  source = λ _. due.0.counted;
  delivered = λ h. omega (arith, h);
  made =
      λ h. omega (arith, h);
}
report_reasons before now c (no_formula TooLong) due = record {
  words = λ h. absurd (omega (arith, h));
  source = λ h. absurd (omega (arith, h));
  delivered =
      λ h. omega (arith, h);
  made = λ h. omega (arith, h);
}
report_reasons before now c (no_formula (RefusedFormula l name)) due =
    record {
      words = λ h. absurd (omega (arith, h));
      source = λ h. absurd (omega (arith, h));
      delivered =
          λ h. omega (arith, h);
      made = λ h. omega (arith, h);
    }
report_reasons before now c unreadable_certificate (f, one, unreadable, picked) =
    record {
      words = λ h. absurd (omega (arith, h));
      source = λ _. unreadable.counted;
      delivered =
          λ h. omega (arith, h);
      made = λ h. omega (arith, h);
    }
report_reasons before now c long_certificate due = record {
  words = λ h. absurd (omega (arith, h));
  source =
      λ h. absurd (omega (arith, h));
  delivered = λ h. omega (arith, h);
  made = λ h. omega (arith, h);
}
report_reasons before now c (judged f answer) due = apart_reasons before now c (answer_status answer)
    (status_apart answer)

reasons : (before now : FilesState) (asked : Option Command) (p : Printed) → IsDue before now asked p →
    Reasons before now asked p.status
reasons before now None p (same, picks) =
    let one : p.status ≡ 1 = ap (λ (q : Printed). q.status) same in
    record {
      words = λ _. refl;
      source = λ h. absurd (omega (arith, h, one));
      delivered = λ h. omega (arith, h, one);
      made = λ h. omega (arith, h, one);
    }
reasons before now (Some c) p (report, due, same) =
    subst (λ (q : Printed). Reasons before now (Some c) q.status) (sym same) (report_reasons before now c report due)

pub causes : (before now : FilesState) (asked : Option Command) (sink sink_now : SinkState) (r : Result Output Memory)
    (status : ℕ) → now.held ≡ before.held
    → IfOk r (IsReported before now asked) → IsEnd r sink sink_now status →
    HasCauses asked before now sink sink_now status
causes before now asked sink sink_now (Ok output) status held o (inl w) =
    let why = reasons before now asked (printed output) o.due in
    record {
      words = λ h. why.words (sym w.ends_with ∙ h);
      source = λ h. why.source (sym w.ends_with ∙ h);
      sink_fault = λ h. absurd (why.delivered (sym w.ends_with ∙ h));
      long = λ h. o.long (sym w.ends_with ∙ h);
      unfaulted_files = λ three four five. o.unfaulted (λ h. three (w.ends_with ∙ h));
      unfaulted_sink = λ _. w.unfaulted;
      held = held;
    }
causes before now asked sink sink_now (Ok output) status held o (inr cut) =
    let four = cut.ends_with in
    record {
      words = λ h. absurd (omega (arith, h, four));
      source = λ h. absurd (omega (arith, h, four));
      sink_fault = λ _. cut.counted;
      long = λ h. absurd (omega (arith, h, four));
      unfaulted_files = λ three other five. absurd (other four);
      unfaulted_sink = λ other. absurd (other four);
      held = held;
    }
causes before now asked sink sink_now (Err _) status held o unwritten =
    let five = unwritten.ends_with in
    record {
      words = λ h. absurd (omega (arith, h, five));
      source = λ h. absurd (omega (arith, h, five));
      sink_fault = λ h. absurd (omega (arith, h, five));
      long = λ h. absurd (omega (arith, h, five));
      unfaulted_files = λ three four other. absurd (other five);
      unfaulted_sink = λ _. ap (λ (s : SinkState). s.faults) unwritten.same;
      held = held;
    }
