-- Words of private contracts: definitions that are put in, in the order of the existentials.
use Rattle.std.specs.Prelude.{◌≡◌, ◌⊎◌, ℕ, Bool, false, List, length, Option, None, Some, slice_get, slice_index_or, slice_set}
use Rattle.std.specs.List.{All, Contains}
use Rattle.dq_lits.specs.Literal.{Assignment}
use Rattle.dq_lits.specs.Formula.{Existential, Dqbf}
use Rattle.dq_formula.specs.declared.rules.Rule.{Rule}
use Rattle.aig_graph.specs.Graph.{AigGraph, IsNode}
use Rattle.aig_graph.specs.Outputs.{node_output}
use Rattle.aig_graph.specs.Substituting.{IsPutIn}
use Rattle.aig_graph.specs.declared.nodes.Node.{Node}
use Rattle.aig_graph.specs.declared.nodes.Node.TheVariants.{Constant}
use Rattle.defining_nodes.specs.Definitions.{defining_output}
use Rattle.definition_order.specs.Order.{IsShared}
use Rattle.expansion.specs.Table.{PointBits}
use Rattle.candidate_functions.specs.Candidates.{AgreesAtPairs, FollowsRules}

-- at a place, the definition with the nodes put in
pub record HasPutAt (old new : AigGraph) (definition : Node) (place : ℕ)
    (before after : List Node) : Type 0 where
  pub node : Node
  pub put_in : IsPutIn old new definition before node
  pub after_is : after ≡ slice_set before place node

-- the same where there is a definition
pub record IsPutAt (old new : AigGraph) (definition : Option Node) (place : ℕ)
    (before after : List Node) : Type 0 where
  pub none : definition ≡ None → after ≡ before
  pub some : (d : Node) → definition ≡ Some d → HasPutAt old new d place before after

-- each existential that a definition of y may read has its output's value
abbrev pub HaveValues : Dqbf → List ℕ → AigGraph → List Node → Existential → Assignment → Type 0
HaveValues f ranks graph nodes y m =
    (q : ℕ) (z : Existential) → slice_get f.existentials q ≡ Some z → IsShared f ranks y z
    → m z.variable ≡ (node_output f graph (slice_index_or nodes q (Constant false))).value m

-- the output of an existential, beside those of the others
pub record IsOutput (f : Dqbf) (ranks : List ℕ) (rows : List (List Bool))
    (points : PointBits) (rules : List Rule) (graph : AigGraph) (nodes : List Node)
    (y : Existential) (definition : Option Node) (node : Node) : Type 0 where
  pub reads : All (Contains y.sees) (node_output f graph node).support
  pub at_pairs : AgreesAtPairs f rows points y (node_output f graph node)
  pub by_rules : definition ≡ None → FollowsRules f rows rules y (node_output f graph node)
  pub defined : (d : Node) → definition ≡ Some d → (m : Assignment)
      → HaveValues f ranks graph nodes y m
      → (node_output f graph node).value m ≡ (defining_output f graph d).value m

-- there is no definition at the place, or it was put in
abbrev pub IsSettled : List (Option Node) → List ℕ → ℕ → Type 0
IsSettled definitions done p = (slice_index_or definitions p None ≡ None) ⊎ Contains done p

-- the outputs at the places that are settled
pub record AreSettled (f : Dqbf) (ranks : List ℕ) (rows : List (List Bool))
    (points : PointBits) (rules : List Rule) (definitions : List (Option Node))
    (graph : AigGraph) (done : List ℕ) (nodes : List Node) : Type 0 where
  pub each : (p : ℕ) (y : Existential) → slice_get f.existentials p ≡ Some y
      → IsSettled definitions done p
      → IsOutput f ranks rows points rules graph nodes y (slice_index_or definitions p None)
      (slice_index_or nodes p (Constant false))

-- the outputs of all existentials
pub record AreOutputs (f : Dqbf) (ranks : List ℕ) (rows : List (List Bool))
    (points : PointBits) (rules : List Rule) (definitions : List (Option Node))
    (graph : AigGraph) (nodes : List Node) : Type 0 where
  pub one_each : length nodes ≡ length f.existentials
  pub are_nodes : All (IsNode graph) nodes
  pub each : (p : ℕ) (y : Existential) → slice_get f.existentials p ≡ Some y
      → IsOutput f ranks rows points rules graph nodes y (slice_index_or definitions p None)
      (slice_index_or nodes p (Constant false))
