-- What is due for a script's file behind a formula's.
use Rattle.std.proofs.Common.{◌≡◌, ◌≢◌, inl, inr, ℕ, List, Result, Ok, Err, ◌∙◌, ap, subst, arith}
use Rattle.std.specs.Prelude.{IfOk}
use Rattle.dq_io.specs.Causes.{next_count}
use Rattle.dq_io.specs.State.{FilesState}
use Rattle.dq_lits.specs.Formula.{Dqbf}
use Rattle.dq_lits.specs.declared.memory.Memory.{Memory}
use Rattle.dqdimacs_reader.specs.declared.faults.FormulaFault.{FormulaFault}
use Rattle.dq_runs.specs.FileTexts.{IsShortText, IsUnreadable, IsTooLong, PickedOnce, PickedTwice}
use Rattle.dq_runs.specs.FormulaFiles.{IsFaultOf, IsFormulaOf, IsNoFormula, formula_line}
use Rattle.dq_runs.specs.Printed.{printed}
use Rattle.dq_runs.specs.declared.formulas.NoFormula.{NoFormula as FormulaReport}
use Rattle.dq_runs.specs.declared.formulas.NoFormula.TheVariants.{Unreadable, Refused}
use Rattle.dq_runs.specs.declared.outputs.Output.{Output}
use Rattle.dq_runs.proofs.SaidFormulas.{status_of, said_rightly}
use Rattle.hint_log.specs.Entries.{ProofLog}
use Rattle.session_runs.specs.Blocks.{printed_session}
use Rattle.session_runs.specs.ScriptFiles.{IsTextDue, IsTextOutput, IsBehindFormula, IsFaultDue, IsBehindFault}
use Rattle.session_runs.specs.SessionFiles.{max_script, session_line, IsNoSession, IsSessionOutput}
use Rattle.session_runs.specs.declared.files.NoSession.{NoSession}
use Rattle.session_runs.specs.declared.files.NoSession.TheVariants.{NoFormula, UnreadableScript, LongScript, RefusedScript}

-- the script's text was read
pub text-behind : (before now : FilesState) (f : Dqbf) (log : ProofLog) (script text : List ℕ)
    (r : Result Output Memory) → IsShortText max_script (before.held script) text → PickedOnce before now
    → now.faults ≡ before.faults → IfOk r (IsTextOutput f text log) → IfOk r (IsBehindFormula before now f log script)
text-behind before now f log script text (Err _) short once unfaulted is = tt
text-behind before now f log script text (Ok output) short once unfaulted is = by is.due
  where
    by : IsTextDue f text log (printed output) → IsBehindFormula before now f log script output
    by (inl (line, name, refused, same)) = record {
      due = inl (RefusedScript line name, (record { text = text; read = short; refused = refused }, once), same);
      long = λ six. let seven = status_of output (session_line (RefusedScript line name)) same in
          absurd (omega (arith, six, seven));
      unfaulted = λ _. unfaulted;
    }
    by (inr (commands, searches, reading, searched, same)) = record {
      due = search arith;
      long = λ six. let zero = status_of output (printed_session searches) same in absurd (omega (arith, six, zero));
      unfaulted = λ _. unfaulted;
    }

-- the formula's file was read between these states
pub record Passes (before now : FilesState) : Type 0 where
  pub held : now.held ≡ before.held
  pub reliable : now.reliable ≡ before.reliable
  pub picked : PickedOnce before now
  pub unfaulted : now.faults ≡ before.faults

twice : (before mid now : FilesState) → Passes before mid → PickedOnce mid now → PickedTwice before now
twice before mid now passes once = once ∙ ap next_count passes.picked

unreadable-behind : (before mid now : FilesState) (name : List ℕ) → Passes before mid → IsUnreadable mid now name
    → IsUnreadable before now name
unreadable-behind before mid now name passes u = search arith

long-behind : (before mid now : FilesState) (name : List ℕ) → Passes before mid → IsTooLong max_script mid now name
    → IsTooLong max_script before now name
long-behind before mid now name passes l = search arith

-- the formula's file ends it
pub first-said : (before now : FilesState) (log : ProofLog) (file script : List ℕ) (said : FormulaReport)
    (r : Result Output Memory)
    → (IsNoFormula before now file said × PickedOnce before now → IsNoSession before now file script (NoFormula said))
    → IsNoFormula before now file said × PickedOnce before now → (said ≢ Unreadable → now.faults ≡ before.faults)
    → IfOk r (λ output. printed output ≡ formula_line said) → IfOk r (IsSessionOutput before now log file script)
first-said before now log file script said (Err _) kind is unfaulted same = tt
first-said before now log file script said (Ok output) kind is unfaulted same =
    let rightly = said_rightly before now file said output is.0 unfaulted same in
    record {
      due = inl (NoFormula said, kind is, same);
      long = rightly.long;
      unfaulted = rightly.unfaulted;
    }

-- the script's file, where the formula's text has a fault
pub fault-behind : (before mid now : FilesState) (log : ProofLog) (file script : List ℕ) (line : ℕ) (name : FormulaFault)
    (r : Result Output Memory) → Passes before mid
    → IsFaultOf (before.held file) (record { line = line; name = name })
    → IfOk r (IsBehindFault mid now (Refused line name) script) → IfOk r (IsSessionOutput before now log file script)
fault-behind before mid now log file script line name (Err _) passes fault is = tt
fault-behind before mid now log file script line name (Ok output) passes fault is = record {
  due = inl (by is.due);
  long = is.long;
  unfaulted = λ other. is.unfaulted other ∙ passes.unfaulted;
}
  where
    by : IsFaultDue mid now (Refused line name) script (printed output)
        → (said : NoSession) × IsNoSession before now file script said × (printed output ≡ session_line said)
    by (inl (read, once, same)) = (
      NoFormula (Refused line name),
      (
        fault,
        (read.0, subst (λ held. IsShortText max_script (held script) read.0) passes.held read.1),
        twice before mid now passes once,
      ),
      same,
    )
    by (inr (inl (unreadable, once, same))) = (
      UnreadableScript,
      (
        (fault.text, fault.read),
        unreadable-behind before mid now script passes unreadable,
        twice before mid now passes once,
      ),
      same,
    )
    by (inr (inr (long, once, same))) = (
      LongScript,
      ((fault.text, fault.read), long-behind before mid now script passes long, twice before mid now passes once),
      same,
    )

-- and where it has none
pub formula-behind : (before mid now : FilesState) (log : ProofLog) (file script : List ℕ) (f : Dqbf)
    (r : Result Output Memory) → Passes before mid → IsFormulaOf (before.held file) f
    → IfOk r (IsBehindFormula mid now f log script) → IfOk r (IsSessionOutput before now log file script)
formula-behind before mid now log file script f (Err _) passes formula is = tt
formula-behind before mid now log file script f (Ok output) passes formula is =
    search (arith, unreadable-behind, long-behind)
