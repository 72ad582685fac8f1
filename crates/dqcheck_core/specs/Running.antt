-- Which report of the checker is due.
use Rattle.std.specs.Prelude.{◌≡◌, ℕ, ◌^◌, List, Option, None, Some}
use Rattle.dq_io.specs.Files.{Holding}
use Rattle.dq_io.specs.State.{FilesState}
use Rattle.dq_lits.specs.Formula.{Dqbf}
use Rattle.dq_runs.specs.FileTexts.{IsShortText, IsUnreadable, IsTooLong, PickedOnce, PickedTwice}
use Rattle.dq_runs.specs.FormulaFiles.{IsFormulaOf, IsNoFormula}
use Rattle.dq_runs.specs.Printed.{Printed}
use Rattle.cert_judge.specs.Judgement.{IsJudgement}
use Rattle.cert_judge.specs.declared.answers.Judgement.{Judgement}
use Rattle.dqcheck_words.specs.Command.{Command}
use Rattle.dqcheck_core.specs.Report.{Report, no_formula, unreadable_certificate, long_certificate, judged, usage, printed_report}

-- the most bytes of a certificate
abbrev pub max_certificate : ℕ
max_certificate = 2 ^ 40

-- this is to be said of the file's text as a certificate for the formula
pub record IsAnswerTo (f : Dqbf) (holding : Holding) (answer : Judgement) : Type 0 where
  pub text : List ℕ
  pub read : IsShortText max_certificate holding text
  pub judged : IsJudgement f text answer

-- Which report is due for the files of a command, by what the files told before the run and tell
-- behind it: the formula's file comes first, then its text, then the certificate's file and text.
-- The certificate's file is picked only for a formula, and no other file is picked.
abbrev pub IsDueFor : FilesState → FilesState → Command → Report → Type 0
IsDueFor before now c (no_formula said) =
    IsNoFormula before now c.formula said × PickedOnce before now
IsDueFor before now c unreadable_certificate =
    (f : Dqbf) × IsFormulaOf (before.held c.formula) f × IsUnreadable before now c.certificate
    × PickedTwice before now
IsDueFor before now c long_certificate =
    (f : Dqbf) × IsFormulaOf (before.held c.formula) f
    × IsTooLong max_certificate before now c.certificate × PickedTwice before now
IsDueFor before now c (judged f answer) =
    IsFormulaOf (before.held c.formula) f × IsAnswerTo f (before.held c.certificate) answer
    × PickedTwice before now

-- the words come before all
abbrev pub IsDue : FilesState → FilesState → Option Command → Printed → Type 0
IsDue before now None printed = (printed ≡ usage) × (now.picks ≡ before.picks)
IsDue before now (Some c) printed =
    (report : Report) × IsDueFor before now c report × (printed ≡ printed_report report)
