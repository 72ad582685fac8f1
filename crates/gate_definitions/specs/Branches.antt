-- Definitions by cases on their inputs (C. E. Shannon, "The synthesis of two-terminal switching
-- circuits", 1949).
use Rattle.std.specs.Prelude.{◌≡◌, ℕ, true, List}
use Rattle.std.specs.List.{All}
use Rattle.dq_lits.specs.Literal.{Assignment, Literal}
use Rattle.dq_lits.specs.Formula.{Existential, Dqbf}
use Rattle.dq_lits.specs.Henkin.{MatrixHolds}
use Rattle.dq_formula.specs.Rules.{cube_true}
use Rattle.aig_graph.specs.declared.nodes.Node.{Node}
use Rattle.aig_graph.specs.Graph.{AigGraph, IsNode}
use Rattle.definition_order.specs.Order.{MayRead}
use Rattle.defining_nodes.specs.Definitions.{defining_output}

-- the node reads what a definition of the existential may read alone, and wherever the matrix and
-- all literals of the path are true, the existential has its value
pub record IsDefinitionUnder (f : Dqbf) (ranks : List ℕ) (graph : AigGraph) (path : List Literal)
    (y : Existential) (node : Node) : Type 0 where
  pub is_node : IsNode graph node
  pub reads : All (MayRead f ranks y) (defining_output f graph node).support
  pub defines : (m : Assignment) → MatrixHolds f m → cube_true m path ≡ true
      → m y.variable ≡ (defining_output f graph node).value m
