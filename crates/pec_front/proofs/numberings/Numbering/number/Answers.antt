use Rattle.std.proofs.Common.{arith}
use Rattle.pec_front.proofs.NumberedVariables.{grounded-known}
use Rattle.pec_front.proofs.numberings.Numbering.number.Goals as goal

pub variable-requires-clause-known : goal.variable-requires-clause-known
variable-requires-clause-known c = search (arith, grounded-known)
