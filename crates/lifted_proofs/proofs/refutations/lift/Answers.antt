use Rattle.std.proofs.Common.{arith}
use Rattle.lifted_proofs.proofs.LiftedRefutations.{few-instances}
use Rattle.lifted_proofs.proofs.refutations.lift.Goals as goal

pub overflow_mul-last : goal.overflow_mul-last
overflow_mul-last c = search (arith, few-instances)
