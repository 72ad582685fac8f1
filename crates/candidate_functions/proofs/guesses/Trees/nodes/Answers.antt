use Rattle.std.proofs.Common.{◌≡◌, ◌+◌, ap, length, sym, ◌∙◌, subst, arith}
use Rattle.std.proofs.lemmas.List.{length-map}
use Rattle.dq_lits.specs.Formula.{Existential}
use Rattle.aig_graph.proofs.LargerGraphs.{grown_twice}
use Rattle.candidate_functions.proofs.LargerGraphs.{guesses_stay}
use Rattle.candidate_functions.proofs.TreeNodes.{NodesSoFar, node_more, all_nodes}
use Rattle.candidate_functions.proofs.guesses.Trees.nodes.Goals as goal

pub returns-in_err-node-clause-extends : goal.returns-in_err-node-clause-extends
returns-in_err-node-clause-extends c = search (arith, grown_twice)

pub returns-in_err-push-clause-extends : goal.returns-in_err-push-clause-extends
returns-in_err-push-clause-extends c = search (arith, grown_twice)

pub loop-place-preserved : goal.loop-place-preserved
loop-place-preserved c =
    let f = c.args.known.now.f.now in
    subst (λ ns. NodesSoFar f c.args.graph.now c.node_at.new.graph (c.loop-place.place + 1) ns)
    (sym c.in_ok-push.ensures.items)
    (node_more f c.args.graph.now c.loop-place.graph c.node_at.new.graph c.loop-place.place c.loop-place.nodes.items
    c.in_ok-node.node c.loop-place.invariant c.in_ok-node.ensures.extends c.in_ok-node.ensures.node)

pub returns-clause-nodes : goal.returns-clause-nodes
returns-clause-nodes c =
    let f = c.args.known.now.f.now in
    let long = ap length c.existentials-place-end.ensures ∙ length-map f.existentials
    (λ (y : Existential). y.variable) in
    let all : c.loop-place.place ≡ length f.existentials = omega (arith, long) in
    all_nodes f c.args.graph.now c.loop-place.graph c.loop-place.place c.loop-place.nodes.items all
    c.loop-place.invariant

pub node_at-requires-clause-guesses : goal.node_at-requires-clause-guesses
node_at-requires-clause-guesses c = search (arith, guesses_stay)
