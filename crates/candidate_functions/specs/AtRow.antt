-- A row of an expansion's table, with a model's bits at its pairs.
use Rattle.std.specs.Prelude.{◌≡◌, ℕ, Bool, true, List, Some}
use Rattle.std.specs.List.{All}
use Rattle.dq_lits.specs.Literal.{Assignment}
use Rattle.dq_lits.specs.Formula.{Existential, Dqbf, HasLawfulPrefix, is_universal, existential_of}
use Rattle.dq_lits.specs.Expansion.{row_assignment, pair_number, instance_clause, InstanceHolds}
use Rattle.aig_graph.specs.Graph.{AigGraph}
use Rattle.aig_graph.specs.declared.nodes.Node.{Node}
use Rattle.defining_nodes.specs.Definitions.{defining_output, IsDefinition}

-- each universal has the row's bit, and each existential the model's bit at its pair
pub record IsAtRow (f : Dqbf) (rows : List (List Bool)) (row : List Bool) (model m : Assignment)
    : Type 0 where
  pub universal : (v : ℕ) → is_universal f v ≡ true → m v ≡ row_assignment f row v
  pub existential : (v : ℕ) (y : Existential) → existential_of f v ≡ Some y
      → m v ≡ model (pair_number f rows row y)

abbrev pub EveryRowHasValues : Type 0
EveryRowHasValues =
    (f : Dqbf) → HasLawfulPrefix f → (rows : List (List Bool)) (row : List Bool)
    (model : Assignment) → (m : Assignment) × IsAtRow f rows row model m

-- every model of all instances of a row has a definition's bit at that row's pair, with the
-- existentials that the definition reads taken at their pairs
abbrev pub DefinedNeedNoArbiter : Type 0
DefinedNeedNoArbiter =
    (f : Dqbf) (ranks : List ℕ) (graph : AigGraph) (y : Existential) (node : Node)
    → existential_of f y.variable ≡ Some y → IsDefinition f ranks graph y node
    → (rows : List (List Bool)) (row : List Bool) (model : Assignment)
    → All (λ clause. InstanceHolds model (instance_clause f rows row clause)) f.matrix
    → (m : Assignment) → IsAtRow f rows row model m
    → model (pair_number f rows row y) ≡ (defining_output f graph node).value m
