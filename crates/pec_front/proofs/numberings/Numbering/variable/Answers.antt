use Rattle.std.proofs.Common.{arith}
use Rattle.pec_front.proofs.NumberedVariables.{gate-number, input-number}
use Rattle.pec_front.proofs.numberings.Numbering.variable.Goals as goal

pub returns-then-place-inputs-clause-value : goal.returns-then-place-inputs-clause-value
returns-then-place-inputs-clause-value c = search (arith, gate-number)

pub returns-clause-value : goal.returns-clause-value
returns-clause-value c = search (arith, input-number)
