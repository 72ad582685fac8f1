-- Candidates: functions for the existentials that agree with a model of the expansion at the pairs
-- of its rows.
use Rattle.std.specs.Prelude.{◌≡◌, ℕ, ◌+◌, ◌==◌, Bool, List, slice_get, slice_index_or, Option, None, Some}
use Rattle.std.specs.List.{All, Contains, position_or_len}
use Rattle.dq_lits.specs.Literal.{Assignment}
use Rattle.dq_lits.specs.Formula.{Existential, Dqbf}
use Rattle.dq_lits.specs.Henkin.{restriction}
use Rattle.dq_lits.specs.Expansion.{row_assignment}
use Rattle.dq_lits.specs.Skolem.{OutputFunction}
use Rattle.dq_formula.specs.Rules.{first_bit}
use Rattle.dq_formula.specs.declared.rules.Rule.{Rule}
use Rattle.aig_graph.specs.declared.nodes.Node.{Node}
use Rattle.aig_graph.specs.Graph.{AigGraph, IsNode}
use Rattle.aig_graph.specs.Outputs.{node_output, outputs_of}
use Rattle.defining_nodes.specs.Definitions.{IsDefinition, defining_output}
use Rattle.expansion.specs.Table.{PointBits}

-- the definition that was handed in for an existential: they are in the order of the existentials,
-- and those that are missing are none
abbrev pub definition_of : Dqbf → List (Option Node) → Existential → Option Node
definition_of f definitions y =
    slice_index_or definitions (position_or_len (λ z. z.variable == y.variable) f.existentials) None

abbrev pub AreDefinitions : Dqbf → List ℕ → AigGraph → List (Option Node) → Type 0
AreDefinitions f ranks graph definitions =
    All (λ y. (node : Node) → definition_of f definitions y ≡ Some node
    → IsDefinition f ranks graph y node) f.existentials

-- a node that reads what the existential sees alone
pub record IsGuess (f : Dqbf) (graph : AigGraph) (y : Existential) (node : Node) : Type 0 where
  pub is_node : IsNode graph node
  pub reads : All (Contains y.sees) (node_output f graph node).support

-- guesses are handed in as definitions are
abbrev pub AreGuesses : Dqbf → AigGraph → List (Option Node) → Type 0
AreGuesses f graph guesses =
    All (λ y. (node : Node) → definition_of f guesses y ≡ Some node → IsGuess f graph y node)
    f.existentials

-- the existential sees the bits that the row gives it
abbrev pub SeesRow : Dqbf → Existential → List Bool → Assignment → Type 0
SeesRow f y row m = restriction y m ≡ restriction y (row_assignment f row)

-- at each pair of the rows the output has the point's bit
abbrev pub AgreesAtPairs : Dqbf → List (List Bool) → PointBits → Existential → OutputFunction
    → Type 0
AgreesAtPairs f rows points y output =
    (k : ℕ) (row : List Bool) (m : Assignment) → slice_get rows k ≡ Some row → SeesRow f y row m
    → output.value m ≡ points (k + 1) y.variable

-- away from the pairs of the rows it has the bit of the first rule whose cube is true; where there
-- is none, it may have either bit
abbrev pub FollowsRules : Dqbf → List (List Bool) → List Rule → Existential → OutputFunction
    → Type 0
FollowsRules f rows rules y output =
    (m : Assignment) (bit : Bool) → All (λ row. SeesRow f y row m → ⊥) rows
    → first_bit rules y.variable m ≡ Some bit → output.value m ≡ bit

abbrev pub AgreeAtPairs : Dqbf → List (List Bool) → PointBits → (Existential → OutputFunction)
    → Type 0
AgreeAtPairs f rows points output =
    All (λ y. AgreesAtPairs f rows points y (output y)) f.existentials

-- the existentials without a definition follow the rules
abbrev pub FollowRules : Dqbf → List (List Bool) → List Rule → List (Option Node)
    → (Existential → OutputFunction) → Type 0
FollowRules f rows rules definitions output =
    All (λ y. definition_of f definitions y ≡ None → FollowsRules f rows rules y (output y))
    f.existentials

-- where each existential has its output's value, the others have their definition's value
abbrev pub AreDefined : Dqbf → AigGraph → List (Option Node) → List Node → Type 0
AreDefined f graph definitions nodes =
    (m : Assignment) → All (λ y. m y.variable ≡ (outputs_of f graph nodes y).value m) f.existentials
    → All (λ y. (node : Node) → definition_of f definitions y ≡ Some node
    → m y.variable ≡ (defining_output f graph node).value m) f.existentials
