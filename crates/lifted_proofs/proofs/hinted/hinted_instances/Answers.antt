use Rattle.std.proofs.Common.{arith}
use Rattle.lifted_proofs.proofs.GatheredHints.{wanted-item}
use Rattle.lifted_proofs.proofs.hinted.hinted_instances.Goals as goal

pub loop-k-preserved : goal.loop-k-preserved
loop-k-preserved c = search (arith, wanted-item)
