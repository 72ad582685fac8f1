use Rattle.gate_definitions.proofs.BranchNodes.{true_leaf, false_leaf}
use Rattle.gate_definitions.proofs.tree_nodes.leaf_node.Goals as goal

pub returns-then-implies : goal.returns-then-implies
returns-then-implies c = λ e graph known. true_leaf c.args.output.now.f.now c.args.output.now.ranks.now
    c.args.output.now.y e known c.args.path.now graph c.pos.result c.constant.result c.pos.ensures
    (c.implies.ensures c.if-implies.true) c.constant.ensures

pub returns-then-implies-2 : goal.returns-then-implies-2
returns-then-implies-2 c = λ e graph known.
    false_leaf c.args.output.now.f.now c.args.output.now.ranks.now c.args.output.now.y e known c.args.path.now graph
    c.neg.result c.constant-then-implies-2.result c.neg.ensures (c.implies-else-implies.ensures c.if-implies-2.true)
    c.constant-then-implies-2.ensures
