-- From what is read of a file to what is due.
use Rattle.std.proofs.Common.{◌≡◌, ◌≢◌, inl, inr, ℕ, List, Result, Ok, Err, sym, ◌∙◌, arith}
use Rattle.std.specs.Prelude.{IfOk}
use Rattle.dq_io.specs.State.{FilesState}
use Rattle.dq_lits.specs.Formula.{Dqbf}
use Rattle.dq_lits.specs.declared.memory.Memory.{Memory}
use Rattle.dq_runs.specs.FileTexts.{PickedOnce}
use Rattle.dq_runs.specs.FormulaFiles.{IsFormulaOf, IsNoFormula, formula_line}
use Rattle.dq_runs.specs.Printed.{printed}
use Rattle.dq_runs.specs.declared.formulas.NoFormula.{NoFormula}
use Rattle.dq_runs.specs.declared.formulas.NoFormula.TheVariants.{Unreadable}
use Rattle.dq_runs.specs.declared.outputs.Output.{Output}
use Rattle.hint_log.specs.Entries.{ProofLog}
use Rattle.hint_log.specs.ProductiveLog.{IsProductiveLog}
use Rattle.definition_runs.specs.DefinedFiles.{IsDefinedLog, IsDefinedOutput}
use Rattle.definition_runs.specs.Definitions.{Definitions, IsDefinitionsOutput, written, cut_off, printed_definitions}
use Rattle.dq_runs.proofs.SaidFormulas.{status_of, said_rightly}

not_long : (f : Dqbf) (found : Definitions) → (printed_definitions f found).status ≡ 6 → ⊥
not_long f (written blocks) six = omega (arith, six)
not_long f (cut_off learned) six = omega (arith, six)

-- definitions of the file's formula
pub found_defined : (before now : FilesState) (log : ProofLog) (file : List ℕ) (f : Dqbf) (r : Result Output Memory) →
    IsFormulaOf (before.held file) f → PickedOnce before now → now.faults ≡ before.faults →
    IfOk r (IsDefinitionsOutput f log) → IfOk r (IsDefinedOutput before now log file)
found_defined before now log file f (Ok output) one picked unfaulted is = record {
  due = inr (record {
    f = f;
    found = is.found;
    formula = one;
    are = is.is;
    picked = picked;
    is_printed = is.is_printed;
  });
  long = λ six. absurd (not_long f is.found
      (sym (status_of output (printed_definitions f is.found) is.is_printed) ∙ six));
  unfaulted = λ _. unfaulted;
}
found_defined before now log file f (Err _) one picked unfaulted is = tt

-- the file gives no formula
pub said_defined : (before now : FilesState) (log : ProofLog) (file : List ℕ) (said : NoFormula)
    (r : Result Output Memory) → IsNoFormula before now file said × PickedOnce before now →
    (said ≢ Unreadable → now.faults ≡ before.faults) → IfOk r (λ output. printed output ≡ formula_line said) →
    IfOk r (IsDefinedOutput before now log file)
said_defined before now log file said (Ok output) (is, once) unfaulted same =
    let rightly = said_rightly before now file said output is unfaulted same in record {
      due = inl (said, is, once, same);
      long = rightly.long;
      unfaulted = rightly.unfaulted;
    }
said_defined before now log file said (Err _) is unfaulted same = tt

pub found_log : (files : FilesState) (file : List ℕ) (f : Dqbf) (log : ProofLog) → IsFormulaOf (files.held file) f →
    IsProductiveLog f log.entries → IsDefinedLog files file log
found_log files file f log one productive = inr (f, one, productive)
