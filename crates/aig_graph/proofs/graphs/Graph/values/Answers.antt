use Rattle.std.proofs.Common.{◌∙◌, ◌<◌, false, length, set, get_or, sym, ap, subst}
use Rattle.aig_graph.specs.declared.nodes.Node.TheVariants.{Constant}
use Rattle.dq_lits.specs.Row.{bit_of}
use Rattle.aig_graph.specs.Graph.{node_value}
use Rattle.aig_graph.proofs.BufferedValues.{node_has_value}
use Rattle.aig_graph.proofs.WrittenBits.{written_more}
use Rattle.aig_graph.proofs.graphs.Graph.values.Goals as goal

pub loop-place-preserved : goal.loop-place-preserved
loop-place-preserved c =
    let graph = c.args.self.now in
    let row = c.args.row.now in
    let nodes = c.args.nodes.now in
    let i = c.loop-place.place in
    let d = Constant false in
    let n = get_or nodes i d in
    let here = c.requires.nodes i d c.loop-place-test.true in
    let value = node_has_value graph (bit_of row) (bit_of c.write_values.new.buf) (length graph.gates)
    (λ g below. c.write_values.ensures.values g (subst (λ m. g < m) (sym c.gates.ensures) below)) n here in
    written_more (node_value graph (bit_of row)) nodes c.args.out.now c.loop-place.out c.set.new.self i d
    c.loop-place-test.true c.requires.a_bit_a_node c.loop-place.invariant
    (c.set.ensures ∙ ap (set c.loop-place.out i) (c.bit-b.ensures ∙ value))
