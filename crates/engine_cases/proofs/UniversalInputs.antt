-- What a node of a graph over the universals reads.
use Rattle.std.proofs.Common.{◌≡◌, ℕ, ◌==◌, ◌<◌, Bool, true, false, cond, List, [], ◌∷◌, ◌++◌, length, get_or, subst}
use Rattle.std.specs.List.{All}
use Rattle.std.proofs.lemmas.List.Elements.{All-nil, All-cons, All-append}
use Rattle.dq_lits.specs.Formula.{Dqbf}
use Rattle.aig_graph.specs.declared.nodes.Node.{Node}
use Rattle.aig_graph.specs.declared.nodes.Node.TheVariants.{Constant, Input, Gate}
use Rattle.aig_graph.specs.declared.nodes.Sides.{Sides}
use Rattle.aig_graph.specs.Graph.{AigGraph, IsEarlierNode, IsNode, IsGraph, AreGates, support_by, gate_support, node_support}
use Rattle.aig_graph.specs.Outputs.{ReadsUniversals}

node_reads : (inputs count : ℕ) (gates : ℕ → List ℕ) → ((g : ℕ) → All (λ i. i < inputs) (gates g)) → (n : Node) →
    IsEarlierNode inputs count n → All (λ i. i < inputs) (support_by gates n)
node_reads inputs count gates each (Constant b) earlier = All-nil (λ i. i < inputs)
node_reads inputs count gates each (Input i negated) earlier =
    All-cons (λ i. i < inputs) i [] earlier (All-nil (λ i. i < inputs))
node_reads inputs count gates each (Gate g negated) earlier = each g

gates_read : (inputs : ℕ) (gates : List Sides) → AreGates inputs gates → (g : ℕ) →
    All (λ i. i < inputs) (gate_support gates g)
gates_read inputs [] are g = All-nil (λ i. i < inputs)
gates_read inputs (s ∷ earlier) are g = by_bit (gates_read inputs earlier are.1) (g == length earlier) where
  by_bit : ((h : ℕ) → All (λ i. i < inputs) (gate_support earlier h)) → (b : Bool) →
      All (λ i. i < inputs) (cond b (support_by (gate_support earlier) s.left ++ support_by
      (gate_support earlier) s.right) (gate_support earlier g))
  by_bit before true =
      All-append (λ i. i < inputs) (support_by (gate_support earlier) s.left)
      (support_by (gate_support earlier) s.right)
      (node_reads inputs (length earlier) (gate_support earlier) before s.left are.0.left)
      (node_reads inputs (length earlier) (gate_support earlier) before s.right are.0.right)
  by_bit before false = before g

pub read_universals : (f : Dqbf) (graph : AigGraph) → graph.inputs ≡ length f.universals → IsGraph graph →
    (nodes : List Node) → All (IsNode graph) nodes → All (ReadsUniversals f graph) nodes
read_universals f graph same lawful nodes are k d below =
    subst (λ n. All (λ i. i < n) (node_support graph (get_or nodes k d))) same
    (node_reads graph.inputs (length graph.gates) (gate_support graph.gates)
    (gates_read graph.inputs graph.gates lawful.gates) (get_or nodes k d) (are k d below))
