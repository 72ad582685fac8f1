-- What is due where the definitions of the formula in a file are asked for.
use Rattle.std.specs.Prelude.{◌≡◌, ◌≢◌, ◌⊎◌, ◌<◌, ℕ, List, []}
use Rattle.dq_io.specs.State.{FilesState}
use Rattle.dq_lits.specs.Formula.{Dqbf}
use Rattle.dq_runs.specs.FileTexts.{PickedOnce}
use Rattle.dq_runs.specs.FormulaFiles.{IsFormulaOf, IsNoFormula, formula_line, max_formula}
use Rattle.dq_runs.specs.Printed.{Printed, printed}
use Rattle.dq_runs.specs.declared.formulas.NoFormula.{NoFormula}
use Rattle.dq_runs.specs.declared.outputs.Output.{Output}
use Rattle.hint_log.specs.Entries.{ProofLog}
use Rattle.hint_log.specs.ProductiveLog.{IsProductiveLog}
use Rattle.definition_runs.specs.Definitions.{AreDefinitions, Definitions, printed_definitions}

-- what was found for the formula of a file
pub record IsFoundOf (before now : FilesState) (log : ProofLog) (file : List ℕ)
    (p : Printed) : Type 0 where
  pub f : Dqbf
  pub found : Definitions
  pub formula : IsFormulaOf (before.held file) f
  pub are : AreDefinitions f log found
  pub picked : PickedOnce before now
  pub is_printed : p ≡ printed_definitions f found

-- the formula's file comes first, then its text, then the search; no other file is picked
abbrev pub IsDefinedDue : FilesState → FilesState → ProofLog → List ℕ → Printed → Type 0
IsDefinedDue before now log file p =
    ((said : NoFormula) × IsNoFormula before now file said × PickedOnce before now
    × (p ≡ formula_line said))
    ⊎ IsFoundOf before now log file p

-- it is due, and no fault of the files is passed over
pub record IsDefinedOutput (before now : FilesState) (log : ProofLog) (file : List ℕ)
    (output : Output) : Type 0 where
  pub due : IsDefinedDue before now log file (printed output)
  pub long : output.status ≡ 6 → max_formula < now.given
  pub unfaulted : output.status ≢ 3 → now.faults ≡ before.faults

-- the log is empty, or of productive work on the formula of the file
abbrev pub IsDefinedLog : FilesState → List ℕ → ProofLog → Type 0
IsDefinedLog files file log =
    (log.entries ≡ [])
    ⊎ ((f : Dqbf) × IsFormulaOf (files.held file) f × IsProductiveLog f log.entries)
