use Rattle.std.proofs.Common.{arith}
use Rattle.lifted_proofs.proofs.GatheredHints.{first-more}
use Rattle.lifted_proofs.proofs.planned.first_goals.Goals as goal

pub loop-h-preserved : goal.loop-h-preserved
loop-h-preserved c = search (arith, first-more)
