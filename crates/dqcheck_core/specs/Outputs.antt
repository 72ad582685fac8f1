-- What the parts of a run answer, words of private contracts.
use Rattle.std.specs.Prelude.{◌≡◌, ◌≢◌, ℕ, ◌<◌, ◌⊎◌, List, Option, codes}
use Rattle.dq_io.specs.State.{FilesState}
use Rattle.dq_lits.specs.Formula.{Dqbf}
use Rattle.dq_runs.specs.FileTexts.{IsUnreadable, IsTooLong, PickedOnce}
use Rattle.dq_runs.specs.FormulaFiles.{max_formula}
use Rattle.dq_runs.specs.Printed.{Printed, printed, unreadable_line, long_line}
use Rattle.dq_runs.specs.declared.outputs.Output.{Output}
use Rattle.cert_judge.specs.declared.answers.Judgement.{Judgement}
use Rattle.dqcheck_words.specs.Command.{Command}
use Rattle.dqcheck_core.specs.Report.{judged, printed_report}
use Rattle.dqcheck_core.specs.Running.{max_certificate, IsAnswerTo, IsDue}

-- it is due, and no fault of the files is passed over
pub record IsReported (before now : FilesState) (asked : Option Command)
    (output : Output) : Type 0 where
  pub due : IsDue before now asked (printed output)
  pub long : output.status ≡ 6 → max_formula < now.given
  pub unfaulted : output.status ≢ 3 → now.faults ≡ before.faults

-- what is due for the certificate's file, once the formula was read
abbrev pub IsDueBehind : FilesState → FilesState → List ℕ → Dqbf → Printed → Type 0
IsDueBehind before now name f printed =
    (IsUnreadable before now name × (printed ≡ unreadable_line))
    ⊎ ((IsTooLong max_certificate before now name × (printed ≡ long_line (codes "certificate")))
    ⊎ ((answer : Judgement) × IsAnswerTo f (before.held name) answer
    × (printed ≡ printed_report (judged f answer))))

pub record IsReportedBehind (before now : FilesState) (name : List ℕ) (f : Dqbf)
    (output : Output) : Type 0 where
  pub due : IsDueBehind before now name f (printed output)
  pub picked : PickedOnce before now
  pub long : output.status ≡ 6 → max_formula < now.given
  pub unfaulted : output.status ≢ 3 → now.faults ≡ before.faults
