-- From what is due to what is shown over files that are told.
use Rattle.std.proofs.Common.{◌≡◌, ◌⊎◌, inl, inr, ℕ, ◌<◌, ◌≤◌, List, length, Option, Result, Ok, Err, sym, ap, ◌∙◌, subst, arith}
use Rattle.std.specs.Prelude.{IfOk}
use Rattle.std.specs.Io.KnownBytes.{append_known}
use Rattle.dq_io.specs.Causes.{Rose}
use Rattle.dq_io.specs.Files.{Holding, Holds}
use Rattle.dq_io.specs.State.{FilesState}
use Rattle.dq_lits.specs.Formula.{Dqbf, IsWellFormed}
use Rattle.dq_lits.specs.Henkin.{IsTrueFormula, IsFalseFormula}
use Rattle.dq_lits.specs.declared.memory.Memory.{Memory}
use Rattle.dqdimacs_reader.specs.Grammar.{SpellsFormula}
use Rattle.dqdimacs_reader.specs.Machine.{TextFault, reading}
use Rattle.dq_runs.specs.Ending.{IsWritten, IsEnd}
use Rattle.dq_runs.specs.FormulaFiles.{max_formula, IsFaultOf, IsFormulaOf}
use Rattle.dq_runs.specs.Printed.{printed, line}
use Rattle.dq_runs.specs.Sinks.{SinkState}
use Rattle.dq_runs.specs.declared.formulas.NoFormula.TheVariants.{Unreadable, TooLong, Refused as RefusedFormula}
use Rattle.dq_runs.specs.declared.outputs.Output.{Output}
use Rattle.defined_checker.specs.declared.checks.DefinedCounts.{DefinedCounts}
use Rattle.cert_judge.specs.Judgement.{IsJudgement, HoldsSkolemCircuit, HoldsRightDefinitions}
use Rattle.cert_judge.specs.declared.answers.Judgement.{Judgement}
use Rattle.cert_judge.specs.declared.answers.Judgement.TheVariants.{Refused, UndeclaredRead, BadRow, Unproved, UnderivedStep, NoEmptyClause, ValidTrue, ValidFalse, BadBlock, ValidDefinitions}
use Rattle.dqcheck_words.specs.Command.{Command}
use Rattle.dqcheck_core.specs.Outputs.{IsReported}
use Rattle.dqcheck_core.specs.Report.{Report, no_formula, unreadable_certificate, long_certificate, judged, printed_report, answer_text, answer_status}
use Rattle.dqcheck_core.specs.Running.{max_certificate, IsAnswerTo, IsDueFor, IsDue}
use Rattle.dqcheck_core.specs.Told.{AreTold, IsAnswered, IsProvedTrue, IsProvedFalse, IsProvedDefined, IsAcceptance, JudgesTold}
use Rattle.dq_runs.proofs.ToldFiles.{held_long, held_text}

-- what the law of the formulas' grammar gives
pub record FormulaLaw : Type 0 where
  pub exact : (text : List ℕ) (f : Dqbf) → SpellsFormula text f → reading text ≡ Ok f
  pub unique : (text : List ℕ) (f g : Dqbf) → SpellsFormula text f → SpellsFormula text g → f ≡ g

-- what the laws of acceptance give
pub record AcceptanceLaw : Type 0 where
  pub circuit : (f : Dqbf) (text : List ℕ) → IsWellFormed f → IsJudgement f text ValidTrue → HoldsSkolemCircuit f text
  pub is_true : (f : Dqbf) (text : List ℕ) → IsWellFormed f → IsJudgement f text ValidTrue → IsTrueFormula f
  pub is_false : (f : Dqbf) (text : List ℕ) → IsWellFormed f → IsJudgement f text ValidFalse → IsFalseFormula f
  pub definitions : (f : Dqbf) (text : List ℕ) (counts : DefinedCounts) → IsWellFormed f →
      IsJudgement f text (ValidDefinitions counts) → HoldsRightDefinitions f text counts

no_fault : FormulaLaw → (formula : List ℕ) (f : Dqbf) (holding : Holding) (fault : TextFault) →
    holding ≡ Holds formula → SpellsFormula formula f → IsFaultOf holding fault → ⊥
no_fault law formula f holding fault is spelled refused =
    let same : refused.text ≡ formula = held_text holding formula refused.text is refused.read.is in
    let both : Err fault ≡ Ok f = sym refused.is_first ∙ ap reading same ∙ law.exact formula f spelled in
    cc

-- files that are told
record Told (files : FilesState) (c : Command) (formula certificate : List ℕ) : Type 0 where
  pub formula_held : files.held c.formula ≡ Holds formula
  pub certificate_held : files.held c.certificate ≡ Holds certificate

spelled_told : (files : FilesState) (c : Command) (formula certificate : List ℕ) (g : Dqbf) →
    Told files c formula certificate → IsFormulaOf (files.held c.formula) g
    → SpellsFormula formula g
spelled_told files c formula certificate g told one =
    subst (λ text. SpellsFormula text g) (held_text (files.held c.formula) formula one.text told.formula_held
    one.read.is) one.spelled

judged_told : (files : FilesState) (c : Command) (formula certificate : List ℕ) (g : Dqbf) (answer : Judgement) →
    Told files c formula certificate
    → IsAnswerTo g (files.held c.certificate) answer → IsJudgement g certificate answer
judged_told files c formula certificate g answer told other =
    subst (λ text. IsJudgement g text answer) (held_text (files.held c.certificate) certificate other.text
    told.certificate_held other.read.is) other.judged

-- ---- where nothing failed, the certificate is judged

answer_written : FormulaLaw → (files : FilesState) (c : Command) (formula certificate : List ℕ) (f g : Dqbf)
    (answer : Judgement) (sink sink_now : SinkState) (status : ℕ)
    → Told files c formula certificate → SpellsFormula formula f → IsFormulaOf (files.held c.formula) g →
    IsAnswerTo g (files.held c.certificate) answer
    → IsWritten (printed_report (judged g answer)) sink sink_now status →
    IsAnswered f certificate sink.taken sink_now.taken status
answer_written law files c formula certificate f g answer sink sink_now status told spelled one other w =
    let same : g ≡ f = law.unique formula g f (spelled_told files c formula certificate g told one) spelled in
    subst (λ h. IsAnswered h certificate sink.taken sink_now.taken status) same (record {
      answer = answer;
      is = judged_told files c formula certificate g answer told other;
      ends_with = w.ends_with;
      written = w.taken;
    })

answered_by : FormulaLaw → (files now : FilesState) (c : Command) (formula certificate : List ℕ) (f : Dqbf)
    (sink sink_now : SinkState) (status : ℕ)
    → Told files c formula certificate → length formula ≤ max_formula → length certificate ≤ max_certificate →
    SpellsFormula formula f → (Rose files.faults now.faults → ⊥)
    → (report : Report) → IsDueFor files now c report → IsWritten (printed_report report) sink sink_now status →
    IsAnswered f certificate sink.taken sink_now.taken status
answered_by law files now c formula certificate f sink sink_now status told short_formula short_certificate spelled
    sound (no_formula Unreadable) due w = absurd (sound due.0.counted)
answered_by law files now c formula certificate f sink sink_now status told short_formula short_certificate spelled
    sound (no_formula TooLong) due w =
    let long = held_long max_formula (files.held c.formula) formula told.formula_held due.0.long in
    absurd (omega (arith, long, short_formula))
answered_by law files now c formula certificate f sink sink_now status told short_formula short_certificate spelled
    sound (no_formula (RefusedFormula line name)) due w =
    absurd (no_fault law formula f (files.held c.formula) (record { line = line; name = name }) told.formula_held
    spelled due.0)
answered_by law files now c formula certificate f sink sink_now status told short_formula short_certificate spelled
    sound unreadable_certificate (g, one, unreadable, picked) w =
    absurd (sound unreadable.counted)
answered_by law files now c formula certificate f sink sink_now status told short_formula short_certificate spelled
    sound long_certificate (g, one, long, picked) w =
    let more = held_long max_certificate (files.held c.certificate) certificate told.certificate_held long.long in
    absurd (omega (arith, more, short_certificate))
answered_by law files now c formula certificate f sink sink_now status told short_formula short_certificate spelled
    sound (judged g answer) (one, other, picked) w =
    answer_written law files c formula certificate f g answer sink sink_now status told spelled one other w

-- ---- what is accepted is right

verdict_of : AcceptanceLaw → (g : Dqbf) (certificate : List ℕ) (before now : Option (List ℕ)) (answer : Judgement) →
    IsWellFormed g
    → IsJudgement g certificate answer → answer_status answer ≡ 0 →
    now ≡ append_known before (line (answer_text g answer))
    → IsProvedTrue g certificate before now
    ⊎ (IsProvedFalse g certificate before now ⊎ IsProvedDefined g certificate before now)
verdict_of law g certificate before now (Refused l name) formed judgement status written =
    absurd (omega (arith, status))
verdict_of law g certificate before now (UndeclaredRead y x) formed judgement status written =
    absurd (omega (arith, status))
verdict_of law g certificate before now (BadRow k) formed judgement status written = absurd (omega (arith, status))
verdict_of law g certificate before now (Unproved n) formed judgement status written = absurd (omega (arith, status))
verdict_of law g certificate before now (UnderivedStep id) formed judgement status written =
    absurd (omega (arith, status))
verdict_of law g certificate before now NoEmptyClause formed judgement status written = absurd (omega (arith, status))
verdict_of law g certificate before now ValidTrue formed judgement status written =
    inl (record {
      accepted = judgement;
      circuit = law.circuit g certificate formed judgement;
      is_true =
          law.is_true g certificate formed judgement;
      written = written;
    })
verdict_of law g certificate before now ValidFalse formed judgement status written =
    inr (inl (record {
      accepted = judgement;
      is_false = law.is_false g certificate formed judgement;
      written = written;
    }))
verdict_of law g certificate before now (BadBlock fault) formed judgement status written =
    absurd (omega (arith, status))
verdict_of law g certificate before now (ValidDefinitions counts) formed judgement status written =
    inr (inr (record {
      counts = counts;
      accepted = judgement;
      definitions = law.definitions g certificate counts formed judgement;
      written = written;
    }))

accepted_by : AcceptanceLaw → (files now : FilesState) (c : Command) (formula certificate : List ℕ)
    (sink sink_now : SinkState) (status : ℕ)
    → Told files c formula certificate → status ≡ 0
    → (report : Report) → IsDueFor files now c report → IsWritten (printed_report report) sink sink_now status →
    IsAcceptance formula certificate sink.taken sink_now.taken
accepted_by law files now c formula certificate sink sink_now status told accepted (no_formula Unreadable) due w =
    let other = w.ends_with in absurd (omega (arith, other, accepted))
accepted_by law files now c formula certificate sink sink_now status told accepted (no_formula TooLong) due w =
    let other = w.ends_with in absurd (omega (arith, other, accepted))
accepted_by law files now c formula certificate sink sink_now status told accepted
    (no_formula (RefusedFormula line name)) due w =
    let other = w.ends_with in absurd (omega (arith, other, accepted))
accepted_by law files now c formula certificate sink sink_now status told accepted unreadable_certificate due w =
    let other = w.ends_with in absurd (omega (arith, other, accepted))
accepted_by law files now c formula certificate sink sink_now status told accepted long_certificate due w = let other =
    w.ends_with in absurd (omega (arith, other, accepted))
accepted_by law files now c formula certificate sink sink_now status told accepted (judged g answer)
    (one, other, picked) w = record {
      f = g;
      spelled = spelled_told files c formula certificate g told one;
      well_formed = one.well_formed;
      verdict = verdict_of law g certificate sink.taken sink_now.taken answer one.well_formed
          (judged_told files c formula certificate g answer told other) (sym w.ends_with ∙ accepted) w.taken;
    }

-- ---- the run

told_of : (files : FilesState) (asked : Option Command) (formula certificate : List ℕ)
    (told : AreTold files.held asked formula certificate)
    → Told files told.command formula certificate
told_of files asked formula certificate told = record {
  formula_held = told.formula_held;
  certificate_held =
      told.certificate_held;
}

pub judges_told : FormulaLaw → AcceptanceLaw → (files now : FilesState) (asked : Option Command)
    (sink sink_now : SinkState) (r : Result Output Memory) (status : ℕ)
    → IfOk r (IsReported files now asked) → IsEnd r sink sink_now status →
    JudgesTold files now asked sink sink_now status
judges_told law accepting files now asked sink sink_now (Ok output) status o (inl w) = record {
  accepted = λ formula certificate told zero.
      let (report, due, same) = subst (λ command. IsDue files now command (printed output)) told.is o.due in
      accepted_by accepting files now told.command formula certificate sink sink_now status
      (told_of files asked formula certificate told) zero report due
      (subst (λ p. IsWritten p sink sink_now status) same w);
  answered = λ formula certificate f told short_formula short_certificate spelled sound _ _.
      let (report, due, same) = subst (λ command. IsDue files now command (printed output)) told.is o.due in
      answered_by law files now told.command formula certificate f sink sink_now status
      (told_of files asked formula certificate told) short_formula short_certificate spelled sound report due
      (subst (λ p. IsWritten p sink sink_now status) same w);
}
judges_told law accepting files now asked sink sink_now (Ok output) status o (inr cut) =
    let four = cut.ends_with in
    record {
      accepted = λ formula certificate told zero. absurd (omega (arith, zero, four));
      answered = λ formula certificate f told short_formula short_certificate spelled sound delivered _. absurd
          (delivered cut.counted);
    }
judges_told law accepting files now asked sink sink_now (Err _) status o unwritten =
    let five = unwritten.ends_with in
    record {
      accepted = λ formula certificate told zero. absurd (omega (arith, zero, five));
      answered = λ formula certificate f told short_formula short_certificate spelled sound _ made. absurd (made five);
    }
