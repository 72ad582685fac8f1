-- Nodes as functions of variables.
use Rattle.std.specs.Prelude.{◌==◌, ◌<◌, false, List, length, map, slice_index, slice_index_or}
use Rattle.std.specs.List.{All, Contains, position_or_len}
use Rattle.dq_lits.specs.Formula.{Existential, Dqbf}
use Rattle.dq_lits.specs.Skolem.{OutputFunction, IsSupported}
use Rattle.aig_graph.specs.declared.nodes.Node.{Node}
use Rattle.aig_graph.specs.declared.nodes.Node.TheVariants.{Constant}
use Rattle.aig_graph.specs.Graph.{AigGraph, node_value, node_support}

-- input i is the universal at place i
abbrev pub node_output : Dqbf → AigGraph → Node → OutputFunction
node_output f graph node = record {
  value = λ m. node_value graph (λ i. m (slice_index f.universals i)) node;
  support = map (slice_index f.universals) (node_support graph node);
}

-- an existential's node, of nodes in the order of the existentials
abbrev pub output_node : Dqbf → List Node → Existential → Node
output_node f nodes y =
    slice_index_or nodes (position_or_len (λ z. z.variable == y.variable) f.existentials)
    (Constant false)

abbrev pub outputs_of : Dqbf → AigGraph → List Node → Existential → OutputFunction
outputs_of f graph nodes y = node_output f graph (output_node f nodes y)

-- each output reads what its existential sees alone
abbrev pub ReadDeclared : Dqbf → (Existential → OutputFunction) → Type 0
ReadDeclared f output = All (λ y. All (Contains y.sees) (output y).support) f.existentials

-- the node reads inputs of universals alone
abbrev pub ReadsUniversals : Dqbf → AigGraph → Node → Type 0
ReadsUniversals f graph node = All (λ i. i < length f.universals) (node_support graph node)

-- a node's value depends on the inputs that it reads alone
abbrev pub OutputsAreSupported : Type 0
OutputsAreSupported =
    (f : Dqbf) (graph : AigGraph) (node : Node) → IsSupported (node_output f graph node)
