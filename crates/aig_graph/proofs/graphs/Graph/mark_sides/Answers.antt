use Rattle.std.proofs.Common.{ap, sym, ◌∙◌, arith}
use Rattle.dq_lits.specs.Row.{bit_of}
use Rattle.aig_graph.proofs.NodeReads.{sides_marked}
use Rattle.aig_graph.proofs.ConeMarks.{handed_on, not_handed_on}
use Rattle.aig_graph.proofs.graphs.Graph.mark_sides.Goals as goal

pub returns-then-get-clause-reached : goal.returns-then-get-clause-reached
returns-then-get-clause-reached c =
    sides_marked c.args.self.now c.args.g c.sides-sides.result c.args.marks.now c.mark.new.marks
    c.mark-then-get.new.marks c.every_graph_is_lawful.ensures c.requires.gate c.sides-sides.ensures.at
    c.sides-sides.ensures.are_sides
    (ap (bit_of c.args.marks.now) (sym c.gate_place.ensures) ∙ sym c.get.ensures ∙ c.if-get.true) c.mark.ensures.marked
    c.mark-then-get.ensures.marked

pub returns-else-get-clause-reached : goal.returns-else-get-clause-reached
returns-else-get-clause-reached c = search arith

pub returns-then-get-clause-hands_on : goal.returns-then-get-clause-hands_on
returns-then-get-clause-hands_on c = search (arith, handed_on)

pub returns-else-get-clause-hands_on : goal.returns-else-get-clause-hands_on
returns-else-get-clause-hands_on c = search (arith, not_handed_on)
