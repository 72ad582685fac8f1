-- Definitions of existentials (A. Padoa, 1900; E. Beth, 1953), which may read other existentials.
use Rattle.std.specs.Prelude.{◌≡◌, ℕ, List, map, slice_index}
use Rattle.std.specs.List.{All}
use Rattle.dq_lits.specs.Literal.{Assignment}
use Rattle.dq_lits.specs.Formula.{Existential, Dqbf, declared}
use Rattle.dq_lits.specs.Henkin.{MatrixHolds}
use Rattle.dq_lits.specs.Skolem.{OutputFunction}
use Rattle.aig_graph.specs.declared.nodes.Node.{Node}
use Rattle.aig_graph.specs.Graph.{AigGraph, IsNode, node_value, node_support}
use Rattle.definition_order.specs.Order.{MayRead}

-- over n universals, input i is the universal at place i, and input n + k the existential at place
-- k
abbrev pub input_variable : Dqbf → ℕ → ℕ
input_variable f i = slice_index (declared f) i

-- a node over inputs of both kinds, as a function of all variables
abbrev pub defining_output : Dqbf → AigGraph → Node → OutputFunction
defining_output f graph node = record {
  value = λ m. node_value graph (λ i. m (input_variable f i)) node;
  support = map (input_variable f) (node_support graph node);
}

-- the node reads what a definition of the existential may read alone, and wherever the matrix is
-- true, the existential has its value
pub record IsDefinition (f : Dqbf) (ranks : List ℕ) (graph : AigGraph) (y : Existential)
    (node : Node) : Type 0 where
  pub is_node : IsNode graph node
  pub reads : All (MayRead f ranks y) (defining_output f graph node).support
  pub defines : (m : Assignment) → MatrixHolds f m
      → m y.variable ≡ (defining_output f graph node).value m
