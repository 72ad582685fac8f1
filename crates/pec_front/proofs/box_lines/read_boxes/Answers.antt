use Rattle.std.proofs.Common.{arith}
use Rattle.pec_front.proofs.ReadLines.{line-taken}
use Rattle.pec_front.proofs.box_lines.read_boxes.Goals as goal

pub loop-left-preserved : goal.loop-left-preserved
loop-left-preserved c = search (arith, line-taken)
