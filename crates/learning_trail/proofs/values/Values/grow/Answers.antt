use Rattle.std.proofs.Common.{arith}
use Rattle.learning_trail.proofs.PairedValues.{paired_grown, plain_grown}
use Rattle.learning_trail.proofs.values.Values.grow.Goals as goal

pub invariant_of-self-2 : goal.invariant_of-self-2
invariant_of-self-2 c = search (arith, paired_grown)

pub returns-clause-ok : goal.returns-clause-ok
returns-clause-ok c = search (arith, plain_grown)
