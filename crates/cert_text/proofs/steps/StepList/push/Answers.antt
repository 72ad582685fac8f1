use Rattle.std.proofs.Common.{arith}
use Rattle.std.proofs.lemmas.Grind.{common_steps}
use Rattle.cert_text.proofs.KeptSteps.{pushed}
use Rattle.cert_text.proofs.steps.StepList.push.Goals as goal

pub returns-clause-ok : goal.returns-clause-ok
returns-clause-ok c = search (arith, common_steps, pushed)
