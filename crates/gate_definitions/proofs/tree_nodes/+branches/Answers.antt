use Rattle.std.proofs.Common.{◌∷◌, ◌∙◌, IfSome, Contains, sym, subst, arith}
use Rattle.dq_lits.specs.Literal.{variable_of}
use Rattle.dq_lits.specs.Formula.{declared}
use Rattle.aig_graph.specs.Graph.{IsNode}
use Rattle.aig_graph.proofs.LargerGraphs.{grown_twice}
use Rattle.definition_order.specs.Order.{MayRead}
use Rattle.definition_order.proofs.Declared.{some_existential}
use Rattle.gate_definitions.specs.Branches.{IsDefinitionUnder}
use Rattle.gate_definitions.proofs.GateNodes.{read_is_declared, literal_is_node}
use Rattle.gate_definitions.proofs.BranchNodes.{later, test_defines}
use Rattle.gate_definitions.proofs.tree_nodes.+branches.Goals as goal

pub test_node-node_of-input-requires-clause-declared : goal.test_node-node_of-input-requires-clause-declared
test_node-node_of-input-requires-clause-declared t c =
    let f = c.args.output.now.f.now in
    let ranks = c.args.output.now.ranks.now in
    let y = c.args.output.now.y in
    let v = variable_of c.args.test.input in
    some_existential f y (Contains (declared f) v) c.args.output.now.existential
    (λ e known. read_is_declared f ranks c.every_formula_is_lawful.ensures y e known v
    (subst (MayRead f ranks e) c.var.ensures.value ((c.may_read.ensures e known).0 c.if-not-may_read.false)))

pub test_node-returns-in_err-zero-clause-extends : goal.test_node-returns-in_err-zero-clause-extends
test_node-returns-in_err-zero-clause-extends t c = search (arith, grown_twice)

pub test_node-returns-in_default-2-clause-extends : goal.test_node-returns-in_default-2-clause-extends
test_node-returns-in_default-2-clause-extends t c = search (arith, grown_twice)

pub test_node-mux-requires-clause-c : goal.test_node-mux-requires-clause-c
test_node-mux-requires-clause-c t c =
    let f = c.args.output.now.f.now in
    let ranks = c.args.output.now.ranks.now in
    let y = c.args.output.now.y in
    let v = variable_of c.args.test.input in
    let graph = c.side_node-2.new.graph in
    let inputs = c.side_node-2.ensures.extends.inputs ∙ c.side_node.ensures.extends.inputs ∙ c.requires.inputs in
    some_existential f y (IsNode graph c.node_of-input.result) c.args.output.now.existential (λ e known.
    subst (IsNode graph) (sym c.node_of-input.ensures) (literal_is_node f graph inputs c.args.test.input
    (read_is_declared f ranks c.every_formula_is_lawful.ensures y e known v
    (subst (MayRead f ranks e) c.var.ensures.value ((c.may_read.ensures e known).0 c.if-not-may_read.false)))))

pub test_node-mux-requires-clause-t : goal.test_node-mux-requires-clause-t
test_node-mux-requires-clause-t t c =
    let f = c.args.output.now.f.now in
    let ranks = c.args.output.now.ranks.now in
    let graph = c.side_node-2.new.graph in
    some_existential f c.args.output.now.y (IsNode graph c.in-Some.one) c.args.output.now.existential (λ e known.
    let first = subst (λ found. IfSome found (IsDefinitionUnder f ranks c.side_node.new.graph
    (c.args.test.input ∷ c.args.path.now) e)) c.in-Some.is (c.in_ok-one.ensures.defines e known) in
    c.side_node-2.ensures.extends.nodes c.in-Some.one first.is_node)

pub test_node-mux-requires-clause-e : goal.test_node-mux-requires-clause-e
test_node-mux-requires-clause-e t c =
    let f = c.args.output.now.f.now in
    let ranks = c.args.output.now.ranks.now in
    let graph = c.side_node-2.new.graph in
    some_existential f c.args.output.now.y (IsNode graph c.in-Some-2.zero) c.args.output.now.existential (λ e known.
    (subst (λ found. IfSome found (IsDefinitionUnder f ranks graph (c.not.result ∷ c.args.path.now) e)) c.in-Some-2.is
    (c.in_ok-zero.ensures.defines e known)).is_node)

pub test_node-returns-in_err-made-clause-extends : goal.test_node-returns-in_err-made-clause-extends
test_node-returns-in_err-made-clause-extends t c = search (arith, grown_twice)

pub test_node-returns-clause-extends : goal.test_node-returns-clause-extends
test_node-returns-clause-extends t c = search (arith, grown_twice)

pub test_node-returns-clause-defines : goal.test_node-returns-clause-defines
test_node-returns-clause-defines t c = λ e known.
    let f = c.args.output.now.f.now in
    let ranks = c.args.output.now.ranks.now in
    let path = c.args.path.now in
    let l = c.args.test.input in
    let graph = c.side_node-2.new.graph in
    let inputs = c.side_node-2.ensures.extends.inputs ∙ c.side_node.ensures.extends.inputs ∙ c.requires.inputs in
    let first = subst (λ found. IfSome found (IsDefinitionUnder f ranks c.side_node.new.graph (l ∷ path) e))
    c.in-Some.is (c.in_ok-one.ensures.defines e known) in
    let second = subst (λ found. IfSome found (IsDefinitionUnder f ranks graph (c.not.result ∷ path) e)) c.in-Some-2.is
    (c.in_ok-zero.ensures.defines e known) in
    test_defines f ranks c.args.output.now.y e known path graph c.mux.new.self inputs c.every_formula_is_lawful.ensures
    l c.not.result c.node_of-input.result c.in-Some.one c.in-Some-2.zero c.in_ok-made.made c.not.ensures
    (subst (MayRead f ranks e) c.var.ensures.value ((c.may_read.ensures e known).0 c.if-not-may_read.false))
    c.node_of-input.ensures
    (later f ranks c.side_node.new.graph graph (l ∷ path) e c.in-Some.one c.side_node-2.ensures.extends first) second
    c.in_ok-made.ensures.made
