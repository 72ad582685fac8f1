use Rattle.std.proofs.Common.{arith}
use Rattle.pec_front.proofs.ReadBoxes.{are-read}
use Rattle.pec_front.proofs.designs.with_comment.Goals as goal

pub in_order-requires-clause-boxes : goal.in_order-requires-clause-boxes
in_order-requires-clause-boxes c = search (arith, are-read)
