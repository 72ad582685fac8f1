use Rattle.std.proofs.Common.{arith}
use Rattle.lifted_proofs.proofs.LiftedNames.{taken-output}
use Rattle.lifted_proofs.proofs.liftings.Lifting.settled_from.Goals as goal

pub literal-was-requires-clause-output : goal.literal-was-requires-clause-output
literal-was-requires-clause-output c = search (arith, taken-output)
