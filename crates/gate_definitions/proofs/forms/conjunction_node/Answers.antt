use Rattle.std.proofs.Common.{All, ◌∙◌, sym, subst, ap}
use Rattle.aig_graph.specs.Graph.{IsNode, node_value, with_sign}
use Rattle.gate_definitions.proofs.GateNodes.{conjunction_is_declared, nodes_are, conjunction_defines}
use Rattle.gate_definitions.proofs.forms.conjunction_node.Goals as goal

pub nodes_of-requires-clause-declared : goal.nodes_of-requires-clause-declared
nodes_of-requires-clause-declared c = conjunction_is_declared c.args.output.now.f.now c.args.output.now.ranks.now
    c.every_formula_is_lawful.ensures c.args.output.now.y c.args.l c.args.cube.now c.args.output.now.existential
    c.requires.gate

pub cube-requires : goal.cube-requires
cube-requires c =
    let f = c.args.output.now.f.now in
    let graph = c.args.graph.now in
    subst (All (IsNode graph)) (sym (c.deref.ensures.value ∙ c.in_ok-nodes.ensures))
    (nodes_are f graph c.requires.inputs c.args.cube.now (conjunction_is_declared f c.args.output.now.ranks.now
    c.every_formula_is_lawful.ensures c.args.output.now.y c.args.l c.args.cube.now c.args.output.now.existential
    c.requires.gate))

pub returns-clause-defines : goal.returns-clause-defines
returns-clause-defines c = λ e known.
    let made = c.in_ok-made.made in
    conjunction_defines c.args.output.now.f.now c.args.graph.now c.requires.inputs c.args.output.now.ranks.now
    c.cube.new.self c.args.output.now.y e known c.every_formula_is_lawful.ensures c.args.l c.args.cube.now
    c.deref.result.now made c.signed.result
    c.requires.on_existential (c.requires.gate e known) (c.deref.ensures.value ∙ c.in_ok-nodes.ensures)
    c.in_ok-made.ensures.made (c.signed.ensures.node c.cube.new.self)
    (λ inputs. c.signed.ensures.value c.cube.new.self inputs ∙ ap
    (λ b. with_sign b (node_value c.cube.new.self inputs made)) c.is_neg.ensures)
    (c.signed.ensures.support c.cube.new.self)
