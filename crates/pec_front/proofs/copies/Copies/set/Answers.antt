use Rattle.std.proofs.Common.{arith}
use Rattle.pec_front.proofs.MarkedCopies.{span-set}
use Rattle.pec_front.proofs.copies.Copies.set.Goals as goal

pub returns-clause-span : goal.returns-clause-span
returns-clause-span c = search (arith, span-set)
