use Rattle.std.proofs.Common.{arith}
use Rattle.cert_text.proofs.KeptSteps.{length-steps_from}
use Rattle.cert_text.proofs.steps.StepList.len.Goals as goal

pub returns-clause-value : goal.returns-clause-value
returns-clause-value c = search (arith, length-steps_from)
