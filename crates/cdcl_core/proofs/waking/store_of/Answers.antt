use Rattle.std.proofs.Common.{arith}
use Rattle.cdcl_core.proofs.HeldLogs.{more_put}
use Rattle.cdcl_core.proofs.waking.store_of.Goals as goal

pub loop-id-preserved : goal.loop-id-preserved
loop-id-preserved c = search (arith, more_put)
