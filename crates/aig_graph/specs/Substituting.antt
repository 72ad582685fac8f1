-- Nodes put in for inputs: the composition of functions.
use Rattle.std.specs.Prelude.{◌≡◌, ◌⊎◌, ◌-◌, ◌+◌, ◌<◌, nat_lt, ℕ, Bool, false, List, length, Some, if◌then◌else◌, slice_get, slice_index_or}
use Rattle.std.specs.List.{Contains}
use Rattle.aig_graph.specs.declared.nodes.Node.{Node}
use Rattle.aig_graph.specs.declared.nodes.Node.TheVariants.{Constant}
use Rattle.aig_graph.specs.Graph.{AigGraph, node_value, node_support, IsNode}

-- the nodes stand for the last inputs: so many inputs stand before these
abbrev pub first_inputs : AigGraph → List Node → ℕ
first_inputs graph subs = graph.inputs - length subs

-- the values of the inputs, where the last ones have those of these nodes
abbrev pub values_put_in : AigGraph → List Node → (ℕ → Bool) → ℕ → Bool
values_put_in graph subs inputs i =
    if nat_lt i (first_inputs graph subs) then inputs i
    else node_value graph inputs
    (slice_index_or subs (i - first_inputs graph subs) (Constant false))

-- the node reads one of the last inputs, and what is put in there reads this one
pub record IsReadBySub (graph : AigGraph) (node : Node) (subs : List Node) (i : ℕ) : Type 0 where
  pub place : ℕ
  pub sub : Node
  pub at : slice_get subs place ≡ Some sub
  pub put_in : Contains (node_support graph node) (first_inputs graph subs + place)
  pub reads : Contains (node_support graph sub) i

-- the node reads it as one of the first inputs, or what is put in for one that it reads
abbrev pub IsReadThrough : AigGraph → Node → List Node → ℕ → Type 0
IsReadThrough graph node subs i =
    (Contains (node_support graph node) i × (i < first_inputs graph subs))
    ⊎ IsReadBySub graph node subs i

-- a node with the value of the first one where the last inputs have the values of the nodes put in,
-- that reads no more than this takes
pub record IsPutIn (old new : AigGraph) (node : Node) (subs : List Node)
    (made : Node) : Type 0 where
  pub is_node : IsNode new made
  pub value : (inputs : ℕ → Bool)
      → node_value new inputs made ≡ node_value old (values_put_in old subs inputs) node
  pub reads : (i : ℕ) → Contains (node_support new made) i → IsReadThrough old node subs i
