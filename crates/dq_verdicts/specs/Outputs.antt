-- The output of a verdict.
use Rattle.std.specs.Prelude.{◌≡◌}
use Rattle.dq_lits.specs.Formula.{Dqbf}
use Rattle.hint_log.specs.Entries.{ProofLog}
use Rattle.dq_runs.specs.Printed.{printed}
use Rattle.dq_runs.specs.declared.outputs.Output.{Output}
use Rattle.dq_verdicts.specs.Shown.{IsVerdict}
use Rattle.verdict_texts.specs.declared.forms.Form.{Form}
use Rattle.verdict_texts.specs.Verdicts.{Verdict, printed_verdict}

-- a verdict on a formula that was searched, which the log shows, with its text and status
pub record IsVerdictOutput (f : Dqbf) (log : ProofLog) (form : Form)
    (output : Output) : Type 0 where
  pub verdict : Verdict
  pub is : IsVerdict f f log form verdict
  pub is_printed : printed output ≡ printed_verdict form f verdict
