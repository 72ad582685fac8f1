-- Words of private contracts: nodes over what an existential sees.
use Rattle.std.specs.Prelude.{ℕ, List}
use Rattle.std.specs.List.{Contains}
use Rattle.aig_graph.specs.Graph.{AigGraph, IsNode, node_support}
use Rattle.aig_graph.specs.declared.nodes.Node.{Node}

-- a node that reads the inputs at these places alone
pub record IsOver (graph : AigGraph) (places : List ℕ) (node : Node) : Type 0 where
  pub is_node : IsNode graph node
  pub reads : (i : ℕ) → Contains (node_support graph node) i → Contains places i
