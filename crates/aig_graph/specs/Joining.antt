-- How two nodes stand to each other, for private contracts.
use Rattle.std.specs.Prelude.{◌≡◌, ◌≢◌, ℕ, Bool, true, false, not, ◌&&◌, Option, None, Some}
use Rattle.aig_graph.specs.declared.nodes.Node.{Node}
use Rattle.aig_graph.specs.declared.nodes.Node.TheVariants.{Constant, Input, Gate}
use Rattle.aig_graph.specs.declared.nodes.Beside.{Beside}
use Rattle.aig_graph.specs.declared.nodes.Beside.TheVariants.{Same, Opposite, Apart}
use Rattle.aig_graph.specs.Graph.{AigGraph, IsEarlierNode, IsNode, place_of}
use Rattle.aig_graph.specs.Made.{IsMade}

abbrev pub opposite_node : Node → Node
opposite_node (Constant b) = Constant (not b)
opposite_node (Input i negated) = Input i (not negated)
opposite_node (Gate g negated) = Gate g (not negated)

-- two nodes on different places, none constant
pub record AreInner (inputs : ℕ) (a b : Node) : Type 0 where
  pub left_inner : place_of inputs a ≢ None
  pub right_inner : place_of inputs b ≢ None
  pub apart : place_of inputs a ≢ place_of inputs b

abbrev pub AreApart : Node → Node → Type 0
AreApart a b =
    (inputs gates : ℕ) → IsEarlierNode inputs gates a → IsEarlierNode inputs gates b
    → AreInner inputs a b

abbrev pub IsInner : Node → Type 0
IsInner (Constant b) = ⊥
IsInner (Input i negated) = Unit {0}
IsInner (Gate g negated) = Unit {0}

abbrev pub IsBeside : Node → Node → Beside → Type 0
IsBeside a b Same = a ≡ b
IsBeside a b Opposite = b ≡ opposite_node a
IsBeside a b Apart = IsInner a → IsInner b → AreApart a b

abbrev pub beside_by : Bool → Bool → Beside
beside_by true true = Same
beside_by true false = Opposite
beside_by false _ = Apart

-- in every graph that has both, the node is true where both are
abbrev pub IsJoined : Node → Node → Node → Type 0
IsJoined a b n =
    (graph : AigGraph) → IsNode graph a → IsNode graph b → IsMade (λ x y. x && y) graph graph a b n

-- a gate's node and another one, by how a side of the gate stands to that other one
abbrev pub node_by_side : Node → Bool → Beside → Node → Option Node
node_by_side gate false Same other = Some gate
node_by_side gate false Opposite other = Some (Constant false)
node_by_side gate true Opposite other = Some other
node_by_side gate _ _ other = None
