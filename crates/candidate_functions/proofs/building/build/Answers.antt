use Rattle.std.proofs.Common.{sym, subst, All, arith}
use Rattle.aig_graph.specs.Graph.{IsNode}
use Rattle.aig_graph.proofs.LargerGraphs.{grown_twice}
use Rattle.expansion.specs.Table.{point_bits}
use Rattle.candidate_functions.specs.Pairs.{AreByRules}
use Rattle.candidate_functions.proofs.AllOutputs.{rule_nodes_are_nodes, first_outputs_are_nodes, read_declared, agree_at_pairs, follow_rules, are_defined}
use Rattle.candidate_functions.proofs.LargerGraphs.{definitions_stay}
use Rattle.candidate_functions.proofs.building.build.Goals as goal

pub first_outputs-requires-clause-others : goal.first_outputs-requires-clause-others
first_outputs-requires-clause-others c =
    let g = c.by_rules.new.graph in
    subst (All (IsNode g)) (sym c.deref.ensures.value) (rule_nodes_are_nodes c.args.f.now g c.args.rules.now
    c.in_ok-others.others.items c.in_ok-others.ensures.nodes)

pub returns-in_err-nodes-clause-extends : goal.returns-in_err-nodes-clause-extends
returns-in_err-nodes-clause-extends c = search (arith, grown_twice)

pub put_definitions-requires-clause-definitions : goal.put_definitions-requires-clause-definitions
put_definitions-requires-clause-definitions c = search (arith, definitions_stay, grown_twice)

pub put_definitions-requires-clause-one_each : goal.put_definitions-requires-clause-one_each
put_definitions-requires-clause-one_each c =
    let by = subst (AreByRules c.args.f.now c.by_rules.new.graph c.args.rules.now)
    (sym c.deref.ensures.value) c.in_ok-others.ensures.nodes in
    (c.in_ok-nodes.ensures.outputs c.args.rules.now by).one_each

pub put_definitions-requires-clause-nodes : goal.put_definitions-requires-clause-nodes
put_definitions-requires-clause-nodes c =
    let by = subst (AreByRules c.args.f.now c.by_rules.new.graph c.args.rules.now)
    (sym c.deref.ensures.value) c.in_ok-others.ensures.nodes in
    first_outputs_are_nodes c.args.f.now c.args.table.now.rows
    (point_bits c.args.points.now) c.args.rules.now c.args.definitions.now c.first_outputs.new.graph
    c.in_ok-nodes.nodes.items
    (c.in_ok-nodes.ensures.outputs c.args.rules.now by)

pub returns-in_err-put_definitions-clause-extends : goal.returns-in_err-put_definitions-clause-extends
returns-in_err-put_definitions-clause-extends c = search (arith, grown_twice)

pub returns-clause-extends : goal.returns-clause-extends
returns-clause-extends c = search (arith, grown_twice)

pub returns-clause-one_each : goal.returns-clause-one_each
returns-clause-one_each c =
    let by = subst (AreByRules c.args.f.now c.by_rules.new.graph c.args.rules.now)
    (sym c.deref.ensures.value) c.in_ok-others.ensures.nodes in
    (c.in_ok-put_definitions.ensures.outputs c.args.table.now.rows
    (point_bits c.args.points.now) c.args.rules.now c.requires.points
    (c.in_ok-nodes.ensures.outputs c.args.rules.now by)).one_each

pub returns-clause-nodes : goal.returns-clause-nodes
returns-clause-nodes c =
    let by = subst (AreByRules c.args.f.now c.by_rules.new.graph c.args.rules.now)
    (sym c.deref.ensures.value) c.in_ok-others.ensures.nodes in
    (c.in_ok-put_definitions.ensures.outputs c.args.table.now.rows
    (point_bits c.args.points.now) c.args.rules.now c.requires.points
    (c.in_ok-nodes.ensures.outputs c.args.rules.now by)).are_nodes

pub returns-clause-reads : goal.returns-clause-reads
returns-clause-reads c =
    let f = c.args.f.now in
    let rules = c.args.rules.now in
    let by = subst (AreByRules f c.by_rules.new.graph rules) (sym c.deref.ensures.value) c.in_ok-others.ensures.nodes in
    read_declared f c.args.ranks.now c.every_formula_is_lawful.ensures c.args.table.now.rows
    (point_bits c.args.points.now) rules c.args.definitions.now c.put_definitions.new.graph
    c.put_definitions.new.nodes.items
    (c.in_ok-put_definitions.ensures.outputs c.args.table.now.rows
    (point_bits c.args.points.now) rules c.requires.points (c.in_ok-nodes.ensures.outputs rules by))

pub returns-clause-at_pairs : goal.returns-clause-at_pairs
returns-clause-at_pairs c =
    let f = c.args.f.now in
    let rules = c.args.rules.now in
    let by = subst (AreByRules f c.by_rules.new.graph rules) (sym c.deref.ensures.value) c.in_ok-others.ensures.nodes in
    agree_at_pairs f c.args.ranks.now c.every_formula_is_lawful.ensures c.args.table.now.rows
    (point_bits c.args.points.now) rules c.args.definitions.now c.put_definitions.new.graph
    c.put_definitions.new.nodes.items
    (c.in_ok-put_definitions.ensures.outputs c.args.table.now.rows
    (point_bits c.args.points.now) rules c.requires.points (c.in_ok-nodes.ensures.outputs rules by))

pub returns-clause-by_rules : goal.returns-clause-by_rules
returns-clause-by_rules c =
    let f = c.args.f.now in
    let rules = c.args.rules.now in
    let by = subst (AreByRules f c.by_rules.new.graph rules) (sym c.deref.ensures.value) c.in_ok-others.ensures.nodes in
    follow_rules f c.args.ranks.now c.every_formula_is_lawful.ensures c.args.table.now.rows
    (point_bits c.args.points.now) rules c.args.definitions.now c.put_definitions.new.graph
    c.put_definitions.new.nodes.items
    (c.in_ok-put_definitions.ensures.outputs c.args.table.now.rows
    (point_bits c.args.points.now) rules c.requires.points (c.in_ok-nodes.ensures.outputs rules by))

pub returns-clause-defined : goal.returns-clause-defined
returns-clause-defined c =
    let f = c.args.f.now in
    let rules = c.args.rules.now in
    let by = subst (AreByRules f c.by_rules.new.graph rules) (sym c.deref.ensures.value) c.in_ok-others.ensures.nodes in
    are_defined f c.args.ranks.now c.every_formula_is_lawful.ensures c.args.table.now.rows
    (point_bits c.args.points.now) rules c.args.definitions.now c.put_definitions.new.graph
    c.put_definitions.new.nodes.items
    (c.in_ok-put_definitions.ensures.outputs c.args.table.now.rows
    (point_bits c.args.points.now) rules c.requires.points (c.in_ok-nodes.ensures.outputs rules by))
