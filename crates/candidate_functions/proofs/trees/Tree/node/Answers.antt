use Rattle.std.proofs.Common.{arith}
use Rattle.aig_graph.proofs.LargerGraphs.{grown_twice}
use Rattle.candidate_functions.specs.Pairs.{universal_places}
use Rattle.candidate_functions.proofs.TreeNodes.{tree_more}
use Rattle.candidate_functions.proofs.trees.Tree.node.Goals as goal

pub returns-in_err-nodes-2-clause-extends : goal.returns-in_err-nodes-2-clause-extends
returns-in_err-nodes-2-clause-extends c = grown_twice c.args.graph.now c.loop-at.graph c.branch_node.new.graph
    c.loop-at.invariant.grown c.branch_node.ensures.extends

pub loop-at-preserved : goal.loop-at-preserved
loop-at-preserved c =
    tree_more c.args.graph.now c.loop-at.graph c.branch_node.new.graph
    (universal_places c.args.f.now c.args.seen.now) c.loop-at.at c.loop-at.nodes.items c.in_ok-nodes-2.field-0
    (omega arith) c.loop-at.invariant
    c.branch_node.ensures.extends c.in_ok-nodes-2.ensures.node
