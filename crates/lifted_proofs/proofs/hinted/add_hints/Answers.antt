use Rattle.std.proofs.Common.{arith}
use Rattle.lifted_proofs.proofs.GatheredHints.{hint-added, hint-skipped}
use Rattle.lifted_proofs.proofs.hinted.add_hints.Goals.{then-h-last+in_ok-insert, else-h-last}
use Rattle.lifted_proofs.proofs.hinted.add_hints.Goals as goal

pub loop-h-preserved : goal.loop-h-preserved
loop-h-preserved c = search (arith, hint-added, hint-skipped)
