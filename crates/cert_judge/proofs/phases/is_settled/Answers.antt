use Rattle.std.proofs.Common.{arith}
use Rattle.cert_judge.proofs.SettledPhases.{proof_settled, refutation_settled}
use Rattle.cert_judge.proofs.phases.is_settled.Goals as goal

pub returns-in-Refutation : goal.returns-in-Refutation
returns-in-Refutation c on f some other answer = search (arith, refutation_settled)

pub returns-in-Proof : goal.returns-in-Proof
returns-in-Proof c on f some other answer = search (arith, proof_settled)
