-- From what is due to what is shown over a file that is told, and of a planted formula.
use Rattle.std.proofs.Common.{◌≡◌, inl, inr, ℕ, ◌≤◌, true, List, length, Option, Result, Ok, Err, sym, ap, ◌∙◌, subst, arith}
use Rattle.std.specs.Prelude.{IfOk}
use Rattle.dq_io.specs.Causes.{Rose}
use Rattle.dq_io.specs.Files.{Holding, Holds}
use Rattle.dq_io.specs.State.{FilesState}
use Rattle.dq_lits.specs.Formula.{Dqbf}
use Rattle.dq_lits.specs.declared.memory.Memory.{Memory}
use Rattle.hint_log.specs.Entries.{ProofLog}
use Rattle.dqdimacs_reader.specs.Grammar.{SpellsFormula}
use Rattle.dqdimacs_reader.specs.Machine.{TextFault, reading}
use Rattle.dq_runs.specs.Ending.{IsWritten, IsEnd}
use Rattle.dq_runs.specs.FormulaFiles.{max_formula, IsFaultOf, IsFormulaOf}
use Rattle.dq_runs.specs.Printed.{Printed, printed}
use Rattle.dq_runs.specs.Sinks.{SinkState}
use Rattle.dq_runs.specs.declared.formulas.NoFormula.TheVariants.{Unreadable, TooLong, Refused}
use Rattle.dq_runs.specs.declared.outputs.Output.{Output}
use Rattle.verdict_texts.specs.Verdicts.{is_verdict_status}
use Rattle.dqsolve_words.specs.Command.{Search, Planting, Command}
use Rattle.dqsolve_core.specs.Outputs.{IsReported}
use Rattle.dqsolve_core.specs.Report.{SearchReport, no_formula, solved, printed_search}
use Rattle.dqsolve_core.specs.Running.{IsDueFor, IsDemoDue, IsDue}
use Rattle.dqsolve_core.specs.Told.{IsSolved, IsSolution, IsDemonstratedRun, SolvesTold}
use Rattle.dq_runs.proofs.ToldFiles.{held_long, held_text}

-- what the law of the formulas' grammar gives
pub record FormulaLaw : Type 0 where
  pub exact : (text : List ℕ) (f : Dqbf) → SpellsFormula text f → reading text ≡ Ok f
  pub unique : (text : List ℕ) (f g : Dqbf) → SpellsFormula text f → SpellsFormula text g → f ≡ g

-- a formula that was read of a told file is spelled there
pub read_spells : (holding : Holding) (bytes : List ℕ) (f : Dqbf) → holding ≡ Holds bytes → IsFormulaOf holding f →
    SpellsFormula bytes f
read_spells holding bytes f is one = subst (λ text. SpellsFormula text f)
    (held_text holding bytes one.text is one.read.is) one.spelled

pub no_fault : FormulaLaw → (formula : List ℕ) (f : Dqbf) (holding : Holding) (fault : TextFault) →
    holding ≡ Holds formula → SpellsFormula formula f → IsFaultOf holding fault → ⊥
no_fault law formula f holding fault is spelled refused =
    let same : refused.text ≡ formula = held_text holding formula refused.text is refused.read.is in
    let both : Err fault ≡ Ok f = sym refused.is_first ∙ ap reading same ∙ law.exact formula f spelled in
    cc

-- ---- a verdict is right

solution_by : (files now : FilesState) (log : ProofLog) (c : Search) (formula : List ℕ) (sink sink_now : SinkState)
    (status : ℕ)
    → files.held c.file ≡ Holds formula → is_verdict_status status ≡ true
    → (report : SearchReport) → IsDueFor files now log c report →
    IsWritten (printed_search c report) sink sink_now status →
    IsSolution formula log c sink.taken sink_now.taken status
solution_by files now log c formula sink sink_now status told verdict (no_formula Unreadable) due w =
    let other : is_verdict_status 3 ≡ true = subst (λ s. is_verdict_status s ≡ true) w.ends_with verdict in cc
solution_by files now log c formula sink sink_now status told verdict (no_formula TooLong) due w =
    let other : is_verdict_status 6 ≡ true = subst (λ s. is_verdict_status s ≡ true) w.ends_with verdict in cc
solution_by files now log c formula sink sink_now status told verdict (no_formula (Refused l name)) due w =
    let other : is_verdict_status 2 ≡ true = subst (λ s. is_verdict_status s ≡ true) w.ends_with verdict in cc
solution_by files now log c formula sink sink_now status told verdict (solved f v) (one, limit, shown, picked) w =
    record {
      f = f;
      spelled = read_spells (files.held c.file) formula f told one;
      well_formed = one.well_formed;
      solved = record { verdict = v; limit = limit; is = shown; ends_with = w.ends_with; written = w.taken };
    }

-- ---- where nothing failed, there is one

solved_by : FormulaLaw → (files now : FilesState) (log : ProofLog) (c : Search) (formula : List ℕ) (f : Dqbf)
    (sink sink_now : SinkState) (status : ℕ)
    → files.held c.file ≡ Holds formula → length formula ≤ max_formula → SpellsFormula formula f →
    (Rose files.faults now.faults → ⊥)
    → (report : SearchReport) → IsDueFor files now log c report →
    IsWritten (printed_search c report) sink sink_now status → IsSolved f log c sink.taken sink_now.taken status
solved_by law files now log c formula f sink sink_now status told short spelled sound (no_formula Unreadable) due w =
    absurd (sound due.0.counted)
solved_by law files now log c formula f sink sink_now status told short spelled sound (no_formula TooLong) due w =
    let long = held_long max_formula (files.held c.file) formula told due.0.long in absurd (omega (arith, long, short))
solved_by law files now log c formula f sink sink_now status told short spelled sound
    (no_formula (Refused line name)) due w =
    absurd (no_fault law formula f (files.held c.file) (record { line = line; name = name }) told spelled due.0)
solved_by law files now log c formula f sink sink_now status told short spelled sound (solved g v)
    (one, limit, shown, picked) w =
    let same : g ≡ f = law.unique formula g f (read_spells (files.held c.file) formula g told one) spelled in
    subst (λ h. IsSolved h log c sink.taken sink_now.taken status) same
    (record { verdict = v; limit = limit; is = shown; ends_with = w.ends_with; written = w.taken })

-- ---- a planted formula

demonstrated_by : (log : ProofLog) (p : Planting) (printed : Printed) (sink sink_now : SinkState) (status : ℕ) →
    IsDemoDue log p printed → IsWritten printed sink sink_now status
    → IsDemonstratedRun p log sink.taken sink_now.taken status
demonstrated_by log p printed sink sink_now status d written =
    let w = subst (λ q. IsWritten q sink sink_now status) d.is_printed written in
    record {
      clauses = d.clauses;
      shown = d.shown;
      limit = d.limit;
      is = d.is;
      ends_with = w.ends_with;
      written =
          w.taken;
    }

-- ---- the run

pub solves_told : FormulaLaw → (files now : FilesState) (asked : Option Command) (log : ProofLog)
    (sink sink_now : SinkState) (r : Result Output Memory) (status : ℕ)
    → IfOk r (IsReported files now asked log) → IsEnd r sink sink_now status →
    SolvesTold files now asked log sink sink_now status
solves_told law files now asked log sink sink_now (Ok output) status o (inl w) = record {
  right = λ formula told verdict.
      let (report, due, same) = subst (λ command. IsDue files now log command (printed output)) told.is o.due in
      solution_by files now log told.command formula sink sink_now status told.formula_held verdict report due
      (subst (λ p. IsWritten p sink sink_now status) same w);
  solved = λ formula f told short spelled sound _ _.
      let (report, due, same) = subst (λ command. IsDue files now log command (printed output)) told.is o.due in
      solved_by law files now log told.command formula f sink sink_now status told.formula_held short spelled sound
      report due (subst (λ p. IsWritten p sink sink_now status) same w);
  demonstrated = λ p is _ _.
      demonstrated_by log p (printed output) sink sink_now status
      ((subst (λ command. IsDue files now log command (printed output)) is o.due).0) w;
}
solves_told law files now asked log sink sink_now (Ok output) status o (inr cut) =
    let four = cut.ends_with in
    record {
      right = λ formula told verdict. let other : is_verdict_status 4 ≡ true =
          subst (λ s. is_verdict_status s ≡ true) four verdict in cc;
      solved = λ formula f told short spelled sound delivered _. absurd (delivered cut.counted);
      demonstrated = λ p is delivered _. absurd (delivered cut.counted);
    }
solves_told law files now asked log sink sink_now (Err _) status o unwritten =
    let five = unwritten.ends_with in
    record {
      right = λ formula told verdict. let other : is_verdict_status 5 ≡ true =
          subst (λ s. is_verdict_status s ≡ true) five verdict in cc;
      solved = λ formula f told short spelled sound _ made. absurd (made five);
      demonstrated = λ p is _ made. absurd (made five);
    }
