use Rattle.std.proofs.Common.{arith}
use Rattle.cert_judge.proofs.Soundness.{accepted_circuit, accepted_definitions, accepted_is_true, accepted_is_false}
use Rattle.cert_judge.proofs.laws.acceptance_is_sound.Goals as goal

pub returns-clause-is_true : goal.returns-clause-is_true
returns-clause-is_true c = search (arith, accepted_is_true)

pub returns-clause-is_false : goal.returns-clause-is_false
returns-clause-is_false c = accepted_is_false c.refutation_shows_false.ensures

pub returns-clause-definitions : goal.returns-clause-definitions
returns-clause-definitions c = search (arith, accepted_definitions)

pub returns-clause-circuit : goal.returns-clause-circuit
returns-clause-circuit c = search (arith, accepted_circuit)
