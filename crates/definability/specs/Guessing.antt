-- What a call answers that asks for a definition of an existential under conditions.
use Rattle.std.specs.Prelude.{◌≡◌, ℕ, true, false, List}
use Rattle.std.specs.List.{All, Contains}
use Rattle.dq_lits.specs.Formula.{Dqbf, Existential}
use Rattle.dq_lits.specs.Henkin.{MatrixHolds}
use Rattle.dq_lits.specs.Literal.{Assignment, Literal, literal_true}
use Rattle.hint_log.specs.Naming.{round_assignment}
use Rattle.aig_graph.specs.Graph.{AigGraph, IsNode}
use Rattle.aig_graph.specs.Outputs.{node_output}
use Rattle.aig_graph.specs.declared.nodes.Node.{Node}
use Rattle.definability.specs.Defining.{IsSample}
use Rattle.definability.specs.declared.defining.Pair.{Pair}
use Rattle.definability.specs.declared.guessing.Guess.{Guess}
use Rattle.definability.specs.declared.guessing.Guess.TheVariants.{Node as NodeFound, Pair as PairFound}

-- the node reads what the existential sees alone, and wherever the matrix and the conditions are
-- true, the existential has its value
pub record IsConditionalDefinition (f : Dqbf) (graph : AigGraph) (y : Existential)
    (conditions : List Literal) (node : Node) : Type 0 where
  pub is_node : IsNode graph node
  pub reads : All (Contains y.sees) (node_output f graph node).support
  pub defines : (m : Assignment) → MatrixHolds f m → All (λ l. literal_true m l ≡ true) conditions
      → m y.variable ≡ (node_output f graph node).value m

-- two samples that agree on what the existential sees, in which the conditions are true, and it is
-- true and false
pub record IsConditionalPair (f : Dqbf) (y : Existential) (conditions : List Literal)
    (pair : Pair) : Type 0 where
  pub first : IsSample f pair.row1 pair.values1
  pub second : IsSample f pair.row2 pair.values2
  pub agree : (v : ℕ) → Contains y.sees v
      → round_assignment f pair.row1 pair.values1 v ≡ round_assignment f pair.row2 pair.values2 v
  pub first_meets : All (λ l. literal_true (round_assignment f pair.row1 pair.values1) l ≡ true)
      conditions
  pub second_meets : All (λ l. literal_true (round_assignment f pair.row2 pair.values2) l ≡ true)
      conditions
  pub is_true : round_assignment f pair.row1 pair.values1 y.variable ≡ true
  pub is_false : round_assignment f pair.row2 pair.values2 y.variable ≡ false

-- the answer is right
abbrev pub IsGuess : Dqbf → AigGraph → Existential → List Literal → Guess → Type 0
IsGuess f graph y conditions (NodeFound node) = IsConditionalDefinition f graph y conditions node
IsGuess f graph y conditions (PairFound pair) = IsConditionalPair f y conditions pair
