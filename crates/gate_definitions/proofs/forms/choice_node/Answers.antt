use Rattle.std.proofs.Common.{arith, sym, subst}
use Rattle.std.proofs.lemmas.Result.{IfOk-weaker}
use Rattle.aig_graph.specs.Graph.{IsNode}
use Rattle.aig_graph.specs.Made.{IsChosen}
use Rattle.defining_nodes.specs.Definitions.{IsDefinition}
use Rattle.gate_definitions.proofs.GateNodes.{choice_is_declared, literal_is_node, choice_defines}
use Rattle.gate_definitions.proofs.forms.choice_node.Goals as goal

pub node_of-c-requires-clause-declared : goal.node_of-c-requires-clause-declared
node_of-c-requires-clause-declared c = let choice = c.args.choice.now in
    choice_is_declared c.args.output.now.f.now c.args.output.now.ranks.now c.every_formula_is_lawful.ensures
    c.args.output.now.y choice c.args.output.now.existential c.requires.gate 0 choice.condition (omega arith)

pub node_of-t-requires-clause-declared : goal.node_of-t-requires-clause-declared
node_of-t-requires-clause-declared c = let choice = c.args.choice.now in
    choice_is_declared c.args.output.now.f.now c.args.output.now.ranks.now c.every_formula_is_lawful.ensures
    c.args.output.now.y choice c.args.output.now.existential c.requires.gate 1 choice.condition (omega arith)

pub node_of-e-requires-clause-declared : goal.node_of-e-requires-clause-declared
node_of-e-requires-clause-declared c = let choice = c.args.choice.now in
    choice_is_declared c.args.output.now.f.now c.args.output.now.ranks.now c.every_formula_is_lawful.ensures
    c.args.output.now.y choice c.args.output.now.existential c.requires.gate 2 choice.condition (omega arith)

pub mux-requires-clause-c : goal.mux-requires-clause-c
mux-requires-clause-c c =
    let f = c.args.output.now.f.now in
    let choice = c.args.choice.now in
    let among = choice_is_declared f c.args.output.now.ranks.now c.every_formula_is_lawful.ensures c.args.output.now.y
    choice c.args.output.now.existential c.requires.gate 0 choice.condition (omega arith) in
    subst (IsNode c.args.graph.now) (sym c.node_of-c.ensures)
    (literal_is_node f c.args.graph.now c.requires.inputs choice.condition among)

pub mux-requires-clause-t : goal.mux-requires-clause-t
mux-requires-clause-t c =
    let f = c.args.output.now.f.now in
    let choice = c.args.choice.now in
    let among = choice_is_declared f c.args.output.now.ranks.now c.every_formula_is_lawful.ensures c.args.output.now.y
    choice c.args.output.now.existential c.requires.gate 1 choice.condition (omega arith) in
    subst (IsNode c.args.graph.now) (sym c.node_of-t.ensures)
    (literal_is_node f c.args.graph.now c.requires.inputs choice.then_value among)

pub mux-requires-clause-e : goal.mux-requires-clause-e
mux-requires-clause-e c =
    let f = c.args.output.now.f.now in
    let choice = c.args.choice.now in
    let among = choice_is_declared f c.args.output.now.ranks.now c.every_formula_is_lawful.ensures c.args.output.now.y
    choice c.args.output.now.existential c.requires.gate 2 choice.condition (omega arith) in
    subst (IsNode c.args.graph.now) (sym c.node_of-e.ensures)
    (literal_is_node f c.args.graph.now c.requires.inputs choice.else_value among)

pub returns-clause-defines : goal.returns-clause-defines
returns-clause-defines c = λ e known.
    let f = c.args.output.now.f.now in
    let graph = c.args.graph.now in
    let new = c.mux.new.self in
    IfOk-weaker c.mux.result (IsChosen graph new c.node_of-c.result c.node_of-t.result c.node_of-e.result)
    (IsDefinition f c.args.output.now.ranks.now new e)
    (λ made chosen. choice_defines f graph c.requires.inputs c.args.output.now.ranks.now new c.args.output.now.y e known
    c.every_formula_is_lawful.ensures c.args.choice.now c.node_of-c.result c.node_of-t.result
    c.node_of-e.result made
    (c.requires.gate e known) c.node_of-c.ensures c.node_of-t.ensures c.node_of-e.ensures chosen) c.mux.ensures.made
