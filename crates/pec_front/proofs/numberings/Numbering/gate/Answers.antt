use Rattle.std.proofs.Common.{arith}
use Rattle.pec_front.proofs.NumberedVariables.{gate-sides}
use Rattle.pec_front.proofs.numberings.Numbering.gate.Goals as goal

pub number-requires-2-clause-grounded : goal.number-requires-2-clause-grounded
number-requires-2-clause-grounded c = search (arith, gate-sides)

pub number-requires-3-clause-grounded : goal.number-requires-3-clause-grounded
number-requires-3-clause-grounded c = search (arith, gate-sides)
