use Rattle.std.proofs.Common.{◌+◌, ◌<◌, length, set, subst, sym, arith}
use Rattle.aig_graph.proofs.BufferedValues.{AreWords, words_more}
use Rattle.aig_graph.proofs.graphs.Graph.write_words.Goals as goal

pub loop-g-preserved : goal.loop-g-preserved
loop-g-preserved c =
    let graph = c.args.self.now in
    let g = c.loop-g.g in
    let inside : g < length graph.gates = omega (arith, c.loop-g-test.true, c.gates-g-end.ensures) in
    subst (λ p. AreWords graph c.args.buf.now c.args.inputs.now (set c.loop-g.buf p c.both_words.result) (g + 1))
    (sym c.gate_place-place.ensures)
    (words_more graph c.args.buf.now c.args.inputs.now c.loop-g.buf g c.sides-sides.result c.word-left.result
    c.word-right.result c.both_words.result c.every_graph_is_lawful.ensures c.requires.a_place_a_node
    c.loop-g.invariant inside c.sides-sides.ensures.at c.sides-sides.ensures.are_sides c.word-left.ensures
    c.word-right.ensures c.both_words.ensures)
