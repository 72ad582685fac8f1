use Rattle.std.proofs.Common.{◌≡◌, [], Some, IfSome, subst}
use Rattle.std.proofs.lemmas.Result.{IfOk-weaker}
use Rattle.aig_graph.specs.declared.nodes.Node.{Node}
use Rattle.defining_nodes.specs.Definitions.{IsDefinition}
use Rattle.gate_definitions.specs.Branches.{IsDefinitionUnder}
use Rattle.gate_definitions.proofs.BranchNodes.{whole}
use Rattle.gate_definitions.proofs.tree_nodes.table_node.Goals as goal

pub returns-in-Some-clause-defines : goal.returns-in-Some-clause-defines
returns-in-Some-clause-defines c = λ e known.
    let f = c.args.output.now.f.now in
    let ranks = c.args.output.now.ranks.now in
    let new = c.branch_node.new.graph in
    IfOk-weaker c.branch_node.result (λ found. IfSome found (IsDefinitionUnder f ranks new [] e))
    (λ found. (node : Node) → found ≡ Some node → IsDefinition f ranks new e node)
    (λ found under node is. whole f ranks new e node (subst (λ o. IfSome o (IsDefinitionUnder f ranks new [] e)) is
    under)) (c.branch_node.ensures.defines e known)
