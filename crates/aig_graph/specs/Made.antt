-- What calls make: how a graph grows, and what a new node is.
use Rattle.std.specs.Prelude.{◌≡◌, ℕ, ◌⊎◌, Bool, true, false, not, List, ◌∷◌, ◌++◌, ◌-◌, length, drop, if◌then◌else◌}
use Rattle.std.specs.List.{Contains, list_all}
use Rattle.aig_graph.specs.declared.nodes.Node.{Node}
use Rattle.aig_graph.specs.declared.nodes.Sides.{Sides}
use Rattle.aig_graph.specs.Graph.{AigGraph, node_value, node_support, IsNode}

-- all nodes stay, with their values and what they read
pub record Extends (old new : AigGraph) : Type 0 where
  pub inputs : new.inputs ≡ old.inputs
  pub nodes : (n : Node) → IsNode old n → IsNode new n
  pub values : (n : Node) → IsNode old n → (inputs : ℕ → Bool)
      → node_value new inputs n ≡ node_value old inputs n
  pub supports : (n : Node) → IsNode old n → node_support new n ≡ node_support old n

abbrev pub sides_of : Node → Node → Sides
sides_of left right = record { left = left; right = right }

abbrev pub with_gate : AigGraph → Sides → AigGraph
with_gate graph sides = record graph { gates = sides ∷ graph.gates }

-- the first gates alone
abbrev pub cut_to : ℕ → AigGraph → AigGraph
cut_to count graph = record graph { gates = drop (length graph.gates - count) graph.gates }

-- gates were added, and nothing else
pub record HasMore (old new : AigGraph) : Type 0 where
  pub inputs : new.inputs ≡ old.inputs
  pub more : List Sides
  pub grown : new.gates ≡ more ++ old.gates

-- a node with this function of two nodes' values, that reads no more than they read
pub record IsMade (function : Bool → Bool → Bool) (old new : AigGraph)
    (a b made : Node) : Type 0 where
  pub is_node : IsNode new made
  pub value : (inputs : ℕ → Bool)
      → node_value new inputs made ≡ function (node_value old inputs a) (node_value old inputs b)
  pub reads : (i : ℕ) → Contains (node_support new made) i
      → Contains (node_support old a) i ⊎ Contains (node_support old b) i

abbrev pub exclusive_or : Bool → Bool → Bool
exclusive_or true b = not b
exclusive_or false b = b

-- a node with the value of the second where the first is true, else of the third
pub record IsChosen (old new : AigGraph) (c t e made : Node) : Type 0 where
  pub is_node : IsNode new made
  pub value : (inputs : ℕ → Bool)
      → node_value new inputs made
      ≡ (if node_value old inputs c then node_value old inputs t else node_value old inputs e)
  pub reads : (i : ℕ) → Contains (node_support new made) i
      → Contains (node_support old c) i
      ⊎ (Contains (node_support old t) i ⊎ Contains (node_support old e) i)

-- one of the nodes reads it
pub record IsReadBy (graph : AigGraph) (nodes : List Node) (i : ℕ) : Type 0 where
  pub node : Node
  pub among : Contains nodes node
  pub reads : Contains (node_support graph node) i

-- a node that is true where all of them are
pub record IsCube (old new : AigGraph) (nodes : List Node) (made : Node) : Type 0 where
  pub is_node : IsNode new made
  pub value : (inputs : ℕ → Bool)
      → node_value new inputs made ≡ list_all (node_value old inputs) nodes
  pub reads : (i : ℕ) → Contains (node_support new made) i → IsReadBy old nodes i
