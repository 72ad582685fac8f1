use Rattle.std.proofs.Common.{arith}
use Rattle.lifted_proofs.proofs.LiftedNames.{kept-in}
use Rattle.lifted_proofs.proofs.liftings.Lifting.place.Goals as goal

pub returns-clause-is : goal.returns-clause-is
returns-clause-is c = search (arith, kept-in)

pub returns-clause-within : goal.returns-clause-within
returns-clause-within c = search (arith, kept-in)
