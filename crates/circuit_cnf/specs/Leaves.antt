-- Which leaf a log has for a node of a graph.
use Rattle.std.specs.Prelude.{◌≡◌, ◌+◌, ◌<◌, ◌⊎◌, ℕ, Bool, true, false, List, length, Some, slice_get, slice_index_or}
use Rattle.std.specs.List.{Contains}
use Rattle.dq_lits.specs.Literal.{Assignment, Literal, positive}
use Rattle.dq_lits.specs.Formula.{Dqbf}
use Rattle.dq_lits.specs.Row.{bit_of}
use Rattle.aig_graph.specs.declared.nodes.Node.{Node}
use Rattle.aig_graph.specs.declared.nodes.Node.TheVariants.{Constant, Input, Gate}
use Rattle.aig_graph.specs.declared.nodes.Sides.{Sides}
use Rattle.aig_graph.specs.Graph.{AigGraph, AreSides, gate_at, place_of}
use Rattle.aig_graph.specs.Outputs.{node_output}
use Rattle.hint_log.specs.Entries.{Entry, name_of}
use Rattle.hint_log.specs.declared.names.Name.TheVariants.{Input as InputName, And}
use Rattle.hint_log.specs.declared.origins.Leaf.{Leaf}
use Rattle.hint_log.specs.declared.origins.Leaf.TheVariants.{Constant as LeafConstant, Literal as LeafLiteral}
use Rattle.hint_log.specs.Conditions.{AreLogged}
use Rattle.hint_log.specs.Deciding.{LeafReads}
use Rattle.hint_log.specs.Origins.{leaf_with_sign}
use Rattle.log_laws.specs.Circuits.{value_in, leaf_value}

-- its inputs and gates have names, and a gate is named for its sides' leaves
pub data HasLeaf (f : Dqbf) (graph : AigGraph) (entries : List Entry) : Node → Leaf → Type 0 where
  constant : (b : Bool) → HasLeaf f graph entries (Constant b) (LeafConstant b)
  input : (i x v : ℕ) (negated : Bool) → slice_get f.universals i ≡ Some x
      → name_of entries v ≡ Some (InputName x) →
      HasLeaf f graph entries (Input i negated) (leaf_with_sign negated (LeafLiteral (positive v)))
  gate : (g v : ℕ) (sides : Sides) (negated : Bool) (a b : Literal)
      → gate_at graph.gates g ≡ Some sides → AreSides graph.inputs g sides →
      HasLeaf f graph entries sides.left (LeafLiteral a)
      → HasLeaf f graph entries sides.right (LeafLiteral b) →
      name_of entries v ≡ Some (And a b)
      → HasLeaf f graph entries (Gate g negated)
      (leaf_with_sign negated (LeafLiteral (positive v)))

-- its value is the node's, whichever clauses are said to be false
abbrev pub LeavesHaveNodesValues : Type 0
LeavesHaveNodesValues =
    (f : Dqbf) (graph : AigGraph) (entries : List Entry) (node : Node) (leaf : Leaf)
    → AreLogged entries →
    HasLeaf f graph entries node leaf → (m : Assignment) (bad : ℕ → Bool)
    → (node_output f graph node).value m ≡ leaf_value (value_in m bad entries) leaf

-- it reads inputs of the node's cone alone
abbrev pub LeavesReadNodesCones : Type 0
LeavesReadNodesCones =
    (f : Dqbf) (graph : AigGraph) (entries : List Entry) (node : Node) (leaf : Leaf) →
    HasLeaf f graph entries node leaf → (x : ℕ) → LeafReads entries leaf x
    → Contains (node_output f graph node).support x

-- a node's leaf, by the literals of the inputs and the gates
abbrev pub leaf_by : List Literal → List Literal → Node → Leaf
leaf_by inputs gates (Constant b) = LeafConstant b
leaf_by inputs gates (Input i negated) =
    leaf_with_sign negated (LeafLiteral (slice_index_or inputs i (positive 0)))
leaf_by inputs gates (Gate g negated) =
    leaf_with_sign negated (LeafLiteral (slice_index_or gates g (positive 0)))

abbrev pub IsInnerNode : Node → Type 0
IsInnerNode (Constant b) = ⊥
IsInnerNode _ = Unit {0}

-- the sides of each marked gate are marked
abbrev pub AreClosed : AigGraph → List Bool → Type 0
AreClosed graph marks =
    (g p : ℕ) (sides : Sides) → bit_of marks (graph.inputs + g) ≡ true
    → gate_at graph.gates g ≡ Some sides
    → (place_of graph.inputs sides.left ≡ Some p) ⊎ (place_of graph.inputs sides.right ≡ Some p)
    → bit_of marks p ≡ true

-- the marked gates among the first ones have these literals as their leaves
abbrev pub HaveLeaves : Dqbf → AigGraph → List Bool → List Literal → List Entry → Type 0
HaveLeaves f graph marks literals entries =
    (g : ℕ) → g < length literals → bit_of marks (graph.inputs + g) ≡ true
    → HasLeaf f graph entries (Gate g false) (LeafLiteral (slice_index_or literals g (positive 0)))

-- the inputs that are marked are those of universals
abbrev pub AreMarkedUniversals : Dqbf → AigGraph → List Bool → Type 0
AreMarkedUniversals f graph marks =
    (i : ℕ) → i < graph.inputs → bit_of marks i ≡ true → i < length f.universals
