use Rattle.std.proofs.Common.{◌≡◌, []}
use Rattle.dq_text.specs.Line.{lines_from}
use Rattle.pec_front.specs.Reading.{read_boxes}
use Rattle.pec_front.specs.Steps.{KnowsDriven}
use Rattle.pec_front.proofs.box_lines.read_boxes.Given as goal

abbrev pub invariant-loop-left : goal.invariant-loop-left
invariant-loop-left l = record {
  same : read_boxes l.wires l.count [] (lines_from l.initial.lines.number l.initial.lines.rest) l.initial.lines.number
      ≡ read_boxes l.wires l.left l.read.boxes.items (lines_from l.lines.number l.lines.rest) l.lines.number;
  driven : KnowsDriven l.read;
}

abbrev pub decreases-loop-left : goal.decreases-loop-left
decreases-loop-left l = l.left
