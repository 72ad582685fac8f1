-- What marks tell of what nodes read.
use Rattle.std.specs.Prelude.{◌≡◌, ◌+◌, ◌<◌, ◌⊎◌, ◌↔◌, ℕ, Bool, true, List, Some}
use Rattle.std.specs.List.{Contains}
use Rattle.dq_lits.specs.Row.{bit_of}
use Rattle.aig_graph.specs.declared.nodes.Node.{Node}
use Rattle.aig_graph.specs.declared.nodes.Sides.{Sides}
use Rattle.aig_graph.specs.Graph.{AigGraph, gate_at, gate_support, place_of}

-- a marked gate among the first ones reads the input
pub record IsReadFrom (graph : AigGraph) (count : ℕ) (marks : List Bool) (i : ℕ) : Type 0 where
  pub gate : ℕ
  pub below : gate < count
  pub marked : bit_of marks (graph.inputs + gate) ≡ true
  pub reads : Contains (gate_support graph.gates gate) i

-- the input is marked, or will be, once the first gates that are marked have marked their sides
abbrev pub IsReached : AigGraph → ℕ → List Bool → ℕ → Type 0
IsReached graph count marks i = (bit_of marks i ≡ true) ⊎ IsReadFrom graph count marks i

-- the place of one of the nodes
abbrev pub AreRoots : AigGraph → List Node → ℕ → Type 0
AreRoots graph nodes p = (n : Node) × Contains nodes n × (place_of graph.inputs n ≡ Some p)

-- the places of some nodes, and of the sides of each gate among them
pub data IsInCone (graph : AigGraph) (nodes : List Node) : ℕ → Type 0 where
  root : (n : Node) (p : ℕ) → Contains nodes n → place_of graph.inputs n ≡ Some p
      → IsInCone graph nodes p
  left : (g p : ℕ) (sides : Sides) → IsInCone graph nodes (graph.inputs + g)
      → gate_at graph.gates g ≡ Some sides → place_of graph.inputs sides.left ≡ Some p
      → IsInCone graph nodes p
  right : (g p : ℕ) (sides : Sides) → IsInCone graph nodes (graph.inputs + g)
      → gate_at graph.gates g ≡ Some sides → place_of graph.inputs sides.right ≡ Some p
      → IsInCone graph nodes p

-- a gate's marks, handed on to its sides
abbrev pub HandsOn : AigGraph → ℕ → List Bool → List Bool → Type 0
HandsOn graph g old new =
    (sides : Sides) → gate_at graph.gates g ≡ Some sides → (p : ℕ)
    → ((bit_of new p ≡ true)
    ↔ ((bit_of old p ≡ true)
    ⊎ ((bit_of old (graph.inputs + g) ≡ true)
    × ((place_of graph.inputs sides.left ≡ Some p)
    ⊎ (place_of graph.inputs sides.right ≡ Some p)))))
