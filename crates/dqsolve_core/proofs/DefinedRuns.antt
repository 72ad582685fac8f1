-- From what was found for a formula whose definitions are asked for to what is due, and why.
use Rattle.std.proofs.Common.{◌≡◌, ◌⊎◌, inl, inr, ℕ, ◌≤◌, List, length, Option, Some, Result, Ok, Err, refl, sym, ap, ◌∙◌, subst, arith}
use Rattle.std.specs.Prelude.{IfOk}
use Rattle.dq_io.specs.Causes.{Rose}
use Rattle.dq_io.specs.Files.{Holds}
use Rattle.dq_io.specs.State.{FilesState}
use Rattle.dq_lits.specs.Formula.{Dqbf}
use Rattle.dq_lits.specs.declared.memory.Memory.{Memory}
use Rattle.hint_log.specs.Entries.{ProofLog, steps_of}
use Rattle.dqdimacs_reader.specs.Grammar.{SpellsFormula}
use Rattle.dq_runs.specs.Ending.{IsWritten, IsEnd}
use Rattle.dq_runs.specs.FormulaFiles.{max_formula, IsNoFormula, formula_line}
use Rattle.dq_runs.specs.Printed.{Printed, printed}
use Rattle.dq_runs.specs.Sinks.{SinkState}
use Rattle.dq_runs.specs.declared.formulas.NoFormula.{NoFormula}
use Rattle.dq_runs.specs.declared.formulas.NoFormula.TheVariants.{Unreadable, TooLong, Refused}
use Rattle.dq_runs.specs.declared.outputs.Output.{Output}
use Rattle.definition_runs.specs.DefinedFiles.{IsDefinedDue, IsDefinedLog, IsDefinedOutput, IsFoundOf}
use Rattle.definition_runs.specs.Definitions.{Definitions, written, cut_off, AreDefinitions, printed_definitions}
use Rattle.dqsolve_words.specs.Command.{Command, Defining, defined}
use Rattle.dqsolve_core.specs.Outputs.{IsReported}
use Rattle.dqsolve_core.specs.Running.{IsDue, IsRunLog}
use Rattle.dqsolve_core.specs.ToldDefinitions.{AreDefined, AreDefinedOf, DefinesTold}
use Rattle.dqsolve_core.proofs.Statuses.{Reasons}
use Rattle.dqsolve_core.proofs.ToldFiles.{FormulaLaw, no_fault, read_spells}
use Rattle.dq_runs.proofs.ToldFiles.{held_long}

-- ---- the parts

pub definitions_reported : (before now : FilesState) (log : ProofLog) (c : Defining) (r : Result Output Memory) →
    log.limit ≡ c.steps → IfOk r (IsDefinedOutput before now log c.file) →
    IfOk r (IsReported before now (Some (defined c)) log)
definitions_reported before now log c (Ok output) limit o = record {
  due = (limit, o.due);
  long = o.long;
  unfaulted = o.unfaulted;
}
definitions_reported before now log c (Err _) limit o = tt

pub definitions_log : (files : FilesState) (log : ProofLog) (c : Defining) → log.limit ≡ c.steps →
    IsDefinedLog files c.file log → IsRunLog files (Some (defined c)) log
definitions_log files log c limit (inl none) = inl none
definitions_log files log c limit (inr (f, one, productive)) =
    inr (inl (record {
      command = defined c;
      is = refl;
      limit = limit;
      f = f;
      formula = one;
      searched = f;
      is_searched = refl;
      productive = productive;
    }))

-- ---- which statuses there are, and why

found_reasons : (before now : FilesState) (c : Defining) (f : Dqbf) (found : Definitions) →
    Reasons before now (Some (defined c)) ((printed_definitions f found).status)
found_reasons before now c f (written blocks) = record {
  words = λ h. absurd (omega (arith, h));
  source = λ h. absurd (omega (arith, h));
  delivered = λ h. omega (arith, h);
}
found_reasons before now c f (cut_off learned) = record {
  words = λ h. absurd (omega (arith, h));
  source = λ h. absurd (omega (arith, h));
  delivered = λ h. omega (arith, h);
}

said_reasons : (before now : FilesState) (c : Defining) (said : NoFormula) → IsNoFormula before now c.file said →
    Reasons before now (Some (defined c)) ((formula_line said).status)
said_reasons before now c Unreadable is = record {
  words = λ h. absurd (omega (arith, h));
  source = λ _. is.counted;
  delivered = λ h. omega (arith, h);
}
said_reasons before now c _ is = record {
  words = λ h. absurd (omega (arith, h));
  source = λ h. absurd (omega (arith, h));
  delivered = λ h. omega (arith, h);
}

pub defined_reasons : (before now : FilesState) (log : ProofLog) (c : Defining) (p : Printed) →
    IsDefinedDue before now log c.file p → Reasons before now (Some (defined c)) p.status
defined_reasons before now log c p (inl (said, is, picked, same)) =
    subst (λ (q : Printed). Reasons before now (Some (defined c)) q.status) (sym same) (said_reasons before now c said is)
defined_reasons before now log c p (inr due) =
    subst (λ (q : Printed). Reasons before now (Some (defined c)) q.status) (sym due.is_printed)
    (found_reasons before now c due.f due.found)

found_steps : (log : ProofLog) (f : Dqbf) (found : Definitions) → AreDefinitions f log found →
    (printed_definitions f found).status ≡ 0 → steps_of log.entries ≡ log.limit
found_steps log f (written blocks) are zero = absurd (omega (arith, zero))
found_steps log f (cut_off learned) are zero = are.limit.1.reached

some_status : (said : NoFormula) → (formula_line said).status ≡ 0 → ⊥
some_status TooLong zero = omega (arith, zero)
some_status _ zero = omega (arith, zero)

pub defined_steps : (before now : FilesState) (log : ProofLog) (c : Defining) (p : Printed) →
    IsDefinedDue before now log c.file p → p.status ≡ 0 → steps_of log.entries ≡ log.limit
defined_steps before now log c p (inl (said, is, picked, same)) zero =
    absurd (some_status said (sym (ap (λ (q : Printed). q.status) same) ∙ zero))
defined_steps before now log c p (inr due) zero =
    found_steps log due.f due.found due.are (sym (ap (λ (q : Printed). q.status) due.is_printed) ∙ zero)

-- ---- what is shown over a file that is told

defined_of : (files now : FilesState) (log : ProofLog) (c : Defining) (p : Printed) (sink sink_now : SinkState)
    (status : ℕ) → log.limit ≡ c.steps → (due : IsFoundOf files now log c.file p) → IsWritten p sink sink_now status →
    AreDefined due.f log c sink.taken sink_now.taken status
defined_of files now log c p sink sink_now status limit due w =
    let is = subst (λ q. IsWritten q sink sink_now status) due.is_printed w in
    record { found = due.found; limit = limit; are = due.are; ends_with = is.ends_with; written = is.taken }

other_status : (said : NoFormula) (status : ℕ) → status ≡ (formula_line said).status → (status ≡ 30) ⊎ (status ≡ 0) → ⊥
other_status TooLong status is (inl thirty) = omega (arith, is, thirty)
other_status TooLong status is (inr zero) = omega (arith, is, zero)
other_status _ status is (inl thirty) = omega (arith, is, thirty)
other_status _ status is (inr zero) = omega (arith, is, zero)

right_by : (files now : FilesState) (log : ProofLog) (c : Defining) (formula : List ℕ) (p : Printed)
    (sink sink_now : SinkState) (status : ℕ) → files.held c.file ≡ Holds formula → log.limit ≡ c.steps →
    (status ≡ 30) ⊎ (status ≡ 0) → IsDefinedDue files now log c.file p → IsWritten p sink sink_now status →
    AreDefinedOf formula log c sink.taken sink_now.taken status
right_by files now log c formula p sink sink_now status told limit found (inl (said, is, picked, same)) w =
    absurd (other_status said status (w.ends_with ∙ ap (λ (q : Printed). q.status) same) found)
right_by files now log c formula p sink sink_now status told limit found (inr due) w = record {
  f = due.f;
  spelled = read_spells (files.held c.file) formula due.f told due.formula;
  well_formed = due.formula.well_formed;
  are = defined_of files now log c p sink sink_now status limit due w;
}

none_said : FormulaLaw → (files now : FilesState) (c : Defining) (formula : List ℕ) (f : Dqbf) →
    files.held c.file ≡ Holds formula → length formula ≤ max_formula → SpellsFormula formula f →
    (Rose files.faults now.faults → ⊥) → (said : NoFormula) → IsNoFormula files now c.file said → ⊥
none_said law files now c formula f told short spelled sound Unreadable is = sound is.counted
none_said law files now c formula f told short spelled sound TooLong is =
    let long = held_long max_formula (files.held c.file) formula told is.long in omega (arith, long, short)
none_said law files now c formula f told short spelled sound (Refused line name) is =
    no_fault law formula f (files.held c.file) (record { line = line; name = name }) told spelled is

found_by : FormulaLaw → (files now : FilesState) (log : ProofLog) (c : Defining) (formula : List ℕ) (f : Dqbf)
    (p : Printed) (sink sink_now : SinkState) (status : ℕ) → files.held c.file ≡ Holds formula →
    log.limit ≡ c.steps → length formula ≤ max_formula → SpellsFormula formula f →
    (Rose files.faults now.faults → ⊥) → IsDefinedDue files now log c.file p → IsWritten p sink sink_now status →
    AreDefined f log c sink.taken sink_now.taken status
found_by law files now log c formula f p sink sink_now status told limit short spelled sound
    (inl (said, is, picked, same)) w =
    absurd (none_said law files now c formula f told short spelled sound said is)
found_by law files now log c formula f p sink sink_now status told limit short spelled sound (inr due) w =
    let same = law.unique formula due.f f (read_spells (files.held c.file) formula due.f told due.formula) spelled in
    subst (λ h. AreDefined h log c sink.taken sink_now.taken status) same
    (defined_of files now log c p sink sink_now status limit due w)

pub defines_told : FormulaLaw → (files now : FilesState) (asked : Option Command) (log : ProofLog)
    (sink sink_now : SinkState) (r : Result Output Memory) (status : ℕ) →
    IfOk r (IsReported files now asked log) → IsEnd r sink sink_now status →
    DefinesTold files now asked log sink sink_now status
defines_told law files now asked log sink sink_now (Ok output) status o (inl w) = record {
  right = λ formula told found.
      let due = subst (λ command. IsDue files now log command (printed output)) told.is o.due in
      right_by files now log told.command formula (printed output) sink sink_now status told.formula_held due.0 found
      due.1 w;
  found = λ formula f told short spelled sound _ _.
      let due = subst (λ command. IsDue files now log command (printed output)) told.is o.due in
      found_by law files now log told.command formula f (printed output) sink sink_now status told.formula_held due.0
      short spelled sound due.1 w;
}
defines_told law files now asked log sink sink_now (Ok output) status o (inr cut) =
    let four = cut.ends_with in
    record {
      right = λ formula told found. absurd (elim found [
        | inl thirty ↦ omega (arith, four, thirty)
        | inr zero ↦ omega (arith, four, zero)
      ]);
      found = λ formula f told short spelled sound delivered _. absurd (delivered cut.counted);
    }
defines_told law files now asked log sink sink_now (Err _) status o unwritten =
    let five = unwritten.ends_with in
    record {
      right = λ formula told found. absurd (elim found [
        | inl thirty ↦ omega (arith, five, thirty)
        | inr zero ↦ omega (arith, five, zero)
      ]);
      found = λ formula f told short spelled sound _ made. absurd (made five);
    }
