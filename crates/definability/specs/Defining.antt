-- What a call that defines an existential answers (A. Padoa, 1900; E. Beth, 1953).
use Rattle.std.specs.Prelude.{◌≡◌, ℕ, Bool, true, false, List, length}
use Rattle.dq_lits.specs.Literal.{Assignment}
use Rattle.dq_lits.specs.Formula.{Dqbf, Existential}
use Rattle.dq_lits.specs.Henkin.{HenkinChoice, Follows, Solves, MatrixHolds}
use Rattle.hint_log.specs.Naming.{round_assignment}
use Rattle.aig_graph.specs.declared.nodes.Node.{Node}
use Rattle.aig_graph.specs.Graph.{AigGraph}
use Rattle.defining_nodes.specs.Definitions.{IsDefinition, defining_output}
use Rattle.definition_order.specs.Order.{MayRead}
use Rattle.definability.specs.declared.defining.Found.{Found}
use Rattle.definability.specs.declared.defining.Found.TheVariants.{Defined, Free}
use Rattle.definability.specs.declared.defining.Pair.{Pair}

-- a row and values of the existentials that make the matrix true
pub record IsSample (f : Dqbf) (row values : List Bool) : Type 0 where
  pub row_length : length row ≡ length f.universals
  pub values_length : length values ≡ length f.existentials
  pub holds_there : MatrixHolds f (round_assignment f row values)

-- two of them that agree on what a definition of the existential may read, and in which it is true
-- and false
pub record IsFreePair (f : Dqbf) (ranks : List ℕ) (y : Existential) (pair : Pair) : Type 0 where
  pub first : IsSample f pair.row1 pair.values1
  pub second : IsSample f pair.row2 pair.values2
  pub agree : (v : ℕ) → MayRead f ranks y v
      → round_assignment f pair.row1 pair.values1 v ≡ round_assignment f pair.row2 pair.values2 v
  pub is_true : round_assignment f pair.row1 pair.values1 y.variable ≡ true
  pub is_false : round_assignment f pair.row2 pair.values2 y.variable ≡ false

-- the answer is right
abbrev pub IsFound : Dqbf → List ℕ → AigGraph → Existential → Found → Type 0
IsFound f ranks graph y (Defined node) = IsDefinition f ranks graph y node
IsFound f ranks graph y (Free pair) = IsFreePair f ranks y pair

-- every solving choice has the value of a definition, with each existential that this reads at that
-- choice's value
abbrev pub DefinitionsAreForced : Type 0
DefinitionsAreForced =
    (f : Dqbf) (ranks : List ℕ) (graph : AigGraph) (y : Existential) (node : Node)
    → IsDefinition f ranks graph y node →
    (choice : HenkinChoice) → Solves choice f → (m : Assignment) → Follows f choice m
    → m y.variable ≡ (defining_output f graph node).value m
