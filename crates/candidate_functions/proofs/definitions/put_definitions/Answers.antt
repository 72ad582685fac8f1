use Rattle.std.proofs.Common.{◌<◌, ◌≤◌, sym, ◌∙◌, subst, arith}
use Rattle.aig_graph.proofs.LargerGraphs.{grown_twice}
use Rattle.candidate_functions.proofs.SettledDefinitions.{order_within, placed_at, definition_node, settled_more, all_settled}
use Rattle.candidate_functions.proofs.definitions.put_definitions.Goals as goal

pub put_definition-requires-clause-place : goal.put_definition-requires-clause-place
put_definition-requires-clause-place c =
    let order = c.in_ok-order.order.items in
    let below = subst (λ n. c.loop-at.at < n) (c.len-at-end.ensures ∙ c.in_ok-order.order.ok.0) c.loop-at-test.true in
    let here = placed_at order c.loop-at.at c.index-place.result.now below c.index-place.ensures in
    subst (λ n. c.index-place.result.now < n) (sym c.loop-at.invariant.one_each)
    (order_within c.args.f.now c.args.ranks.now order c.loop-at.at c.index-place.result.now
    c.in_ok-order.ensures here)

pub put_definition-requires-clause-few : goal.put_definition-requires-clause-few
put_definition-requires-clause-few c = search arith

pub put_definition-requires-clause-definition : goal.put_definition-requires-clause-definition
put_definition-requires-clause-definition c =
    let order = c.in_ok-order.order.items in
    let below = subst (λ n. c.loop-at.at < n) (c.len-at-end.ensures ∙ c.in_ok-order.order.ok.0) c.loop-at-test.true in
    let here = placed_at order c.loop-at.at c.index-place.result.now below c.index-place.ensures in
    definition_node c.args.f.now c.args.ranks.now c.every_formula_is_lawful.ensures c.args.definitions.now
    c.args.graph.now c.loop-at.graph order c.loop-at.at c.index-place.result.now c.requires.definitions
    c.loop-at.invariant.grown c.in_ok-order.ensures here

pub put_definition-requires-clause-nodes : goal.put_definition-requires-clause-nodes
put_definition-requires-clause-nodes c = c.loop-at.invariant.are_nodes

pub returns-in_err-put_definition-clause-extends : goal.returns-in_err-put_definition-clause-extends
returns-in_err-put_definition-clause-extends c = search (arith, grown_twice)

pub loop-at-preserved : goal.loop-at-preserved
loop-at-preserved c =
    let order = c.in_ok-order.order.items in
    let below = subst (λ n. c.loop-at.at < n) (c.len-at-end.ensures ∙ c.in_ok-order.order.ok.0) c.loop-at-test.true in
    let here = placed_at order c.loop-at.at c.index-place.result.now below c.index-place.ensures in
    settled_more c.args.f.now c.args.ranks.now c.every_formula_is_lawful.ensures c.args.definitions.now c.args.graph.now
    c.loop-at.graph c.put_definition.new.graph c.args.nodes.now.items c.loop-at.nodes.items
    c.put_definition.new.nodes.items order c.loop-at.at c.index-place.result.now c.requires.definitions
    c.requires.inputs c.in_ok-order.ensures here c.loop-at.invariant
    c.in_ok-put_definition.ensures.extends c.in_ok-put_definition.ensures.put

pub returns-clause-outputs : goal.returns-clause-outputs
returns-clause-outputs c =
    let order = c.in_ok-order.order.items in
    let past = subst (λ n. n ≤ c.loop-at.at) (c.len-at-end.ensures ∙ c.in_ok-order.order.ok.0) c.loop-at-test.false in
    all_settled c.args.f.now c.args.ranks.now c.args.definitions.now c.args.graph.now c.loop-at.graph
    c.args.nodes.now.items c.loop-at.nodes.items order c.loop-at.at c.in_ok-order.ensures past c.loop-at.invariant
