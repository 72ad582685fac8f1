-- What the parts of a run answer, words of private contracts.
use Rattle.std.specs.Prelude.{◌≡◌, ◌≢◌, ℕ, ◌<◌, ◌⊎◌, Bool, [], Option}
use Rattle.dq_io.specs.State.{FilesState}
use Rattle.dq_lits.specs.Formula.{Dqbf}
use Rattle.hint_log.specs.Entries.{ProofLog}
use Rattle.hint_log.specs.ProductiveLog.{IsProductiveLog}
use Rattle.dq_runs.specs.FormulaFiles.{max_formula}
use Rattle.dq_runs.specs.Printed.{printed}
use Rattle.dq_runs.specs.declared.outputs.Output.{Output}
use Rattle.dq_verdicts.specs.declared.demonstrations.Demonstration.{Demonstration}
use Rattle.verdict_texts.specs.Verdicts.{Verdict, printed_verdict}
use Rattle.dqsolve_words.specs.Command.{Options, Command, Planting}
use Rattle.dqsolve_core.specs.Report.{form_of, printed_demo}
use Rattle.dqsolve_core.specs.Running.{IsDue, IsDemonstration}
use Rattle.dqsolve_core.specs.Searched.{IsSearched, IsVerdictBy}

-- it is due, and no fault of the files is passed over
pub record IsReported (before now : FilesState) (asked : Option Command) (log : ProofLog)
    (output : Output) : Type 0 where
  pub due : IsDue before now log asked (printed output)
  pub long : output.status ≡ 6 → max_formula < now.given
  pub unfaulted : output.status ≢ 3 → now.faults ≡ before.faults

-- a verdict by the log of a search with these options, with its text and status
pub record IsSolveOutput (f : Dqbf) (log : ProofLog) (o : Options) (output : Output) : Type 0 where
  pub verdict : Verdict
  pub is : IsVerdictBy f log o verdict
  pub is_printed : printed output ≡ printed_verdict (form_of o) f verdict

-- no work, or productive work on the formula that is searched
abbrev pub IsSolveLog : Dqbf → Bool → ProofLog → Type 0
IsSolveLog f prepares log =
    (log.entries ≡ [])
    ⊎ ((searched : Dqbf) × IsSearched prepares f searched × IsProductiveLog searched log.entries)

-- what was shown of a planted formula
pub record IsDemoOutput (p : Planting) (log : ProofLog) (output : Output) : Type 0 where
  pub clauses : ℕ
  pub shown : Demonstration
  pub is : IsDemonstration p log clauses shown
  pub is_printed : printed output ≡ printed_demo p clauses shown
