use Rattle.std.proofs.Common.{false, get_or, sym, ◌∙◌, subst, All, Contains, arith}
use Rattle.dq_lits.specs.Literal.{Literal, variable_of}
use Rattle.aig_graph.specs.Graph.{IsNode}
use Rattle.aig_graph.specs.declared.nodes.Node.TheVariants.{Constant}
use Rattle.aig_graph.specs.Made.{IsChosen}
use Rattle.aig_graph.proofs.LargerGraphs.{grown_twice}
use Rattle.candidate_functions.specs.Pairs.{IsCubeNode}
use Rattle.candidate_functions.proofs.RuleNodes.{rule_over_universals, rule_node_there, rule_put, rule_of_none, same_beyond}
use Rattle.candidate_functions.proofs.rules.put_rule.Goals as goal

pub cube_node-requires-clause-universals : goal.cube_node-requires-clause-universals
cube_node-requires-clause-universals c =
    let f = c.args.f.now in
    subst (All (λ (l : Literal). Contains f.universals (variable_of l))) (sym c.lits.ensures)
    (rule_over_universals f c.every_formula_is_lawful.ensures c.args.rule.now c.in-Some.place c.requires.rule
    (sym c.existential_place.ensures ∙ c.in-Some.is))

pub mux-requires-clause-e : goal.mux-requires-clause-e
mux-requires-clause-e c =
    let nodes = c.args.nodes.now.items in
    let there =
    rule_node_there c.args.f.now c.args.graph.now nodes c.args.rule.now.y c.in-Some.place
    (sym c.existential_place.ensures ∙ c.in-Some.is)
    c.requires.one_each c.requires.nodes in
    let is = c.index.ensures ∙ same_beyond nodes c.in-Some.place c.index.result.now there.0 in
    subst (IsNode c.cube_node.new.graph) (sym is) (c.in_ok-cube.ensures.extends.nodes
    (get_or nodes c.in-Some.place (Constant false)) there.1)

pub returns-in_ok-nodes-clause-nodes : goal.returns-in_ok-nodes-clause-nodes
returns-in_ok-nodes-clause-nodes c = λ later are.
    let f = c.args.f.now in
    let rule = c.args.rule.now in
    let nodes = c.args.nodes.now.items in
    let mid = c.cube_node.new.graph in
    let new = c.mux.new.self in
    let found = sym c.existential_place.ensures ∙ c.in-Some.is in
    let there = rule_node_there f c.args.graph.now nodes rule.y c.in-Some.place found c.requires.one_each
    c.requires.nodes in
    let before = c.index.ensures ∙ same_beyond nodes c.in-Some.place c.index.result.now there.0 in
    let chosen : IsChosen mid new c.in_ok-cube.cube (Constant rule.bit)
    (get_or nodes c.in-Some.place (Constant false)) c.in_ok-nodes.field-0 =
    subst (λ n. IsChosen mid new c.in_ok-cube.cube n (get_or nodes c.in-Some.place (Constant false))
    c.in_ok-nodes.field-0) c.constant.ensures
    (subst (λ n. IsChosen mid new c.in_ok-cube.cube c.constant.result n c.in_ok-nodes.field-0) before
    c.in_ok-nodes.ensures.made) in
    rule_put f c.args.graph.now mid new rule later nodes c.in-Some.place c.in_ok-cube.cube c.in_ok-nodes.field-0
    c.every_formula_is_lawful.ensures c.requires.rule found
    c.in_ok-cube.ensures.extends c.in_ok-nodes.ensures.extends
    (subst (λ ls. IsCubeNode f mid ls c.in_ok-cube.cube) c.lits.ensures c.in_ok-cube.ensures.node) chosen are

pub returns-in_ok-nodes-clause-extends : goal.returns-in_ok-nodes-clause-extends
returns-in_ok-nodes-clause-extends c = search (arith, grown_twice)

pub returns-in_default-clause-nodes : goal.returns-in_default-clause-nodes
returns-in_default-clause-nodes c = λ later are.
    rule_of_none c.args.f.now c.args.graph.now c.args.rule.now later c.args.nodes.now.items
    (sym c.existential_place.ensures ∙ c.in_default.is) are
