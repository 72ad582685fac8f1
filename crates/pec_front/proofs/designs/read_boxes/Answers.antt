use Rattle.pec_front.specs.Reading.{read_comment}
use Rattle.pec_front.proofs.ReadLines.{undriven-refused, all-are-driven}
use Rattle.pec_front.proofs.designs.read_boxes.Goals as goal

pub returns-in-Some : goal.returns-in-Some
returns-in-Some c =
    undriven-refused c.args.wires.now c.args.further_line (read_comment c.args.wires.now c.args.comment)
    c.in_ok-read.read
    c.in_ok-read.ensures c.first_undriven.result c.first_undriven.ensures.place c.in-Some.place c.in-Some.is
    c.refused.result c.refused.ensures

pub returns : goal.returns
returns c =
    all-are-driven c.args.wires.now c.args.further_line (read_comment c.args.wires.now c.args.comment) c.in_ok-read.read
    c.in_ok-read.ensures c.first_undriven.result c.first_undriven.ensures.place c.in_default.is
