-- The gates in a node's cone, and for private contracts what was made of them.
use Rattle.std.specs.Prelude.{◌≡◌, ◌⊎◌, ◌<◌, ◌↔◌, ℕ, true, false, List, length, Option, None, Some}
use Rattle.std.specs.List.{All, AllPairs, Contains}
use Rattle.std.specs.Ordering.{nat_cmp}
use Rattle.std.specs.BTreeSet.{BTreeSet, contains}
use Rattle.std.specs.BTreeMap.{BTreeMap, get}
use Rattle.aig_graph.specs.declared.nodes.Node.{Node}
use Rattle.aig_graph.specs.declared.nodes.Node.TheVariants.{Constant, Input, Gate}
use Rattle.aig_graph.specs.declared.nodes.Sides.{Sides}
use Rattle.aig_graph.specs.Graph.{AigGraph, gate_at}
use Rattle.aig_graph.specs.Substituting.{IsPutIn}

-- the set has the number
abbrev pub Has : BTreeSet ℕ → ℕ → Type 0
Has numbers n = contains nat_cmp numbers n ≡ true

abbrev pub gate_of : Node → Option ℕ
gate_of (Constant b) = None
gate_of (Input i negated) = None
gate_of (Gate g negated) = Some g

-- the last number was taken from the old set
pub record IsTakenLast (old new : BTreeSet ℕ) (n : ℕ) : Type 0 where
  pub member : Has old n
  pub rest : (q : ℕ) → (Has new q ↔ (Has old q × (q < n)))
  pub others : (q : ℕ) → Has old q → (q ≡ n) ⊎ Has new q

-- if the node is a gate, it is among these
abbrev pub IsAmongGates : List ℕ → Node → Type 0
IsAmongGates gates node = (g : ℕ) → gate_of node ≡ Some g → Contains gates g

-- gates of the graph, later ones first, among them the node's, and with each gate those of its
-- sides
pub record AreConeGates (graph : AigGraph) (node : Node) (gates : List ℕ) : Type 0 where
  pub within : All (λ g. g < length graph.gates) gates
  pub descending : AllPairs (λ g h. h < g) gates
  pub root : IsAmongGates gates node
  pub closed : (g : ℕ) (sides : Sides) → Contains gates g → gate_at graph.gates g ≡ Some sides
      → IsAmongGates gates sides.left × IsAmongGates gates sides.right

-- what was made of a gate
pub record HasPutIn (graph : AigGraph) (subs : List Node) (made : BTreeMap ℕ Node)
    (g : ℕ) : Type 0 where
  pub node : Node
  pub found : get nat_cmp made g ≡ Some node
  pub put_in : IsPutIn graph graph (Gate g false) subs node

-- if the node is a gate, something was made of it
abbrev pub IsSubstituted : AigGraph → List Node → BTreeMap ℕ Node → Node → Type 0
IsSubstituted graph subs made node = (g : ℕ) → gate_of node ≡ Some g → HasPutIn graph subs made g

-- something was made of the gates among a gate's sides
abbrev pub AreSidesSubstituted : AigGraph → List Node → BTreeMap ℕ Node → ℕ → Type 0
AreSidesSubstituted graph subs made g =
    (sides : Sides) → gate_at graph.gates g ≡ Some sides
    → IsSubstituted graph subs made sides.left × IsSubstituted graph subs made sides.right
