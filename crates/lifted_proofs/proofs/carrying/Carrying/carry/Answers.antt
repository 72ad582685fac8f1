use Rattle.std.proofs.Common.{arith}
use Rattle.lifted_proofs.proofs.GatheredHints.{carried-item, item-all}
use Rattle.lifted_proofs.proofs.carrying.Carrying.carry.Goals as goal

pub carry_item-requires-clause-small : goal.carry_item-requires-clause-small
carry_item-requires-clause-small c = search (arith, item-all)

pub loop-k-preserved : goal.loop-k-preserved
loop-k-preserved c = search (arith, carried-item)
