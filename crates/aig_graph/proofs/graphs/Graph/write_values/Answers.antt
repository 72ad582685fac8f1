use Rattle.std.proofs.Common.{◌≡◌, ◌+◌, ◌&&◌, ap, sym, ◌∙◌, subst, arith, set}
use Rattle.aig_graph.proofs.BufferedValues.{AreValues, values_more}
use Rattle.aig_graph.proofs.graphs.Graph.write_values.Goals as goal

pub loop-g-preserved : goal.loop-g-preserved
loop-g-preserved c =
    let row = c.args.row.now in
    let more = values_more c.args.self.now c.args.buf.now row c.loop-g.buf c.loop-g.g c.sides-sides.result
    c.bit-left.result c.bit-right.result c.every_graph_is_lawful.ensures c.requires.a_place_a_node
    c.loop-g.invariant
    (let few = c.requires.few in let test = c.loop-g-test.true in omega (arith, few, test)) c.sides-sides.ensures.at
    c.sides-sides.ensures.are_sides c.bit-left.ensures c.bit-right.ensures in
    let is : set c.loop-g.buf (c.args.self.now.inputs + c.loop-g.g) (c.bit-left.result && c.bit-right.result)
    ≡ c.set.new.self =
    ap (λ p. set c.loop-g.buf p (c.bit-left.result && c.bit-right.result)) (sym c.gate_place.ensures) ∙ ap
    (set c.loop-g.buf c.gate_place.result) (sym c.both.ensures) ∙ sym c.set.ensures in
    subst (λ buf. AreValues c.args.self.now c.args.buf.now row buf (c.loop-g.g + 1)) is more
