-- The inputs in the cones of nodes that read universals alone.
use Rattle.std.proofs.Common.{◌≡◌, ℕ, get_or, ◌+◌, ◌<◌, Bool, true, false, List, [], ◌∷◌, length, Some, refl, sym, ◌∙◌, ap, subst, arith}
use Rattle.std.specs.Prelude.{◌↔◌}
use Rattle.std.specs.List.{All, Contains}
use Rattle.std.proofs.lemmas.List.{get_or_default}
use Rattle.std.proofs.lemmas.List.Elements.{All-contains, Contains-append_left, Contains-append_right}
use Rattle.list_laws.proofs.Options.{some_is}
use Rattle.dq_lits.specs.Formula.{Dqbf}
use Rattle.dq_lits.specs.Row.{bit_of}
use Rattle.aig_graph.specs.declared.nodes.Node.{Node}
use Rattle.aig_graph.specs.declared.nodes.Node.TheVariants.{Constant, Input, Gate}
use Rattle.aig_graph.specs.declared.nodes.Look.TheVariants.{Gate as LookGate}
use Rattle.aig_graph.specs.Graph.{AigGraph, IsEarlierNode, IsNode, IsGraph, IsGateLook, node_support, place_of}
use Rattle.aig_graph.specs.Made.{IsReadBy}
use Rattle.aig_graph.specs.Marking.{IsInCone, root, left, right}
use Rattle.aig_graph.specs.Outputs.{ReadsUniversals}
use Rattle.aig_graph.proofs.Numbered.{sides_are}
use Rattle.aig_graph.proofs.LargerGraphs.{gate_support_at, more_earlier, number_of}
use Rattle.circuit_cnf.specs.Leaves.{AreClosed, AreMarkedUniversals}

-- nodes on one place read the same
same_support : (graph : AigGraph) (a b : Node) (p : ℕ) → IsNode graph a → IsNode graph b →
    place_of graph.inputs a ≡ Some p → place_of graph.inputs b ≡ Some p → node_support graph a ≡ node_support graph b
same_support graph (Constant x) b p is_a is_b at_a at_b = cc
same_support graph (Input i s) (Input j t) p is_a is_b at_a at_b = ap (λ k. k ∷ []) (some_is at_a ∙ sym (some_is at_b))
same_support graph (Gate g s) (Input j t) p is_a is_b at_a at_b = search (arith, some_is)
same_support graph _ (Gate h t) p is_a is_b at_a at_b = search (arith, some_is)
same_support graph _ (Constant x) p is_a is_b at_a at_b = cc

module _ (graph : AigGraph) (lawful : IsGraph graph) (nodes : List Node) (are : All (IsNode graph) nodes) where
  -- what is read from a place in the cones, one of the nodes reads
  pub read_from : (p : ℕ) → IsInCone graph nodes p → (x : Node) → IsNode graph x → place_of graph.inputs x ≡ Some p →
      (i : ℕ) → Contains (node_support graph x) i → IsReadBy graph nodes i
  read_from _ (root n p among is) x is_x at i has = record {
    node = n;
    among = among;
    reads = subst (λ xs. Contains xs i) (same_support graph x n p is_x
        (All-contains (IsNode graph) nodes n are among) at is) has;
  }
  read_from _ (left g p sides cone there is) x is_x at i has =
      let inside = number_of graph.gates g sides there in
      let of_gate = sides_are graph.inputs graph.gates g sides lawful.gates there in
      let is_side = more_earlier graph.inputs g (length graph.gates) (omega (arith, inside)) sides.left of_gate.left in
      let read = subst (λ xs. Contains xs i) (same_support graph x sides.left p is_x is_side at is) has in
      let by_gate = subst (λ xs. Contains xs i) (sym (gate_support_at graph.inputs graph.gates g sides
      lawful.gates there))
      (Contains-append_left (node_support graph sides.left) (node_support graph sides.right) i read) in
      read_from (graph.inputs + g) cone (Gate g false) inside refl i by_gate
  read_from _ (right g p sides cone there is) x is_x at i has =
      let inside = number_of graph.gates g sides there in
      let of_gate = sides_are graph.inputs graph.gates g sides lawful.gates there in
      let is_side = more_earlier graph.inputs g (length graph.gates)
      (omega (arith, inside)) sides.right of_gate.right in
      let read = subst (λ xs. Contains xs i) (same_support graph x sides.right p is_x is_side at is) has in
      let by_gate = subst (λ xs. Contains xs i) (sym (gate_support_at graph.inputs graph.gates g sides
      lawful.gates there))
      (Contains-append_right (node_support graph sides.left) (node_support graph sides.right) i read) in
      read_from (graph.inputs + g) cone (Gate g false) inside refl i by_gate

pub marked_universals : (f : Dqbf) (graph : AigGraph) (nodes : List Node) (marks : List Bool) → IsGraph graph →
    All (IsNode graph) nodes → All (ReadsUniversals f graph) nodes →
    ((p : ℕ) → ((bit_of marks p ≡ true) ↔ IsInCone graph nodes p)) →
    AreMarkedUniversals f graph marks
marked_universals f graph nodes marks lawful are read exact i below marked =
    let r = read_from graph lawful nodes are i ((exact i).0 marked) (Input i false) below refl i
    (0, omega arith, refl) in
    All-contains (λ k. k < length f.universals) (node_support graph r.node) i
    (All-contains (ReadsUniversals f graph) nodes r.node read r.among) r.reads

-- a node whose place is marked is over universals
pub over_universals : (f : Dqbf) (graph : AigGraph) (marks : List Bool) (count : ℕ) →
    AreMarkedUniversals f graph marks → (n : Node) → IsEarlierNode graph.inputs count n →
    ((p : ℕ) → place_of graph.inputs n ≡ Some p → bit_of marks p ≡ true) →
    IsEarlierNode (length f.universals) count n
over_universals f graph marks count low (Input i negated) earlier marked = low i earlier (marked i refl)
over_universals f graph marks count low _ earlier marked = earlier

pub all_over_universals : (f : Dqbf) (graph : AigGraph) (nodes : List Node) (marks : List Bool) (count : ℕ) →
    AreMarkedUniversals f graph marks → ((p : ℕ) → ((bit_of marks p ≡ true) ↔ IsInCone graph nodes p)) →
    All (IsEarlierNode graph.inputs count) nodes → All (IsEarlierNode (length f.universals) count) nodes
all_over_universals f graph nodes marks count low exact earlier k d below =
    let n = get_or nodes k d in
    let inside : Contains nodes n = (k, below, sym (get_or_default nodes k d n below)) in
    over_universals f graph marks count low n (earlier k d below) (λ p at. (exact p).1 (root n p inside at))

-- and so are the sides of a marked gate
pub sides_over_universals : (f : Dqbf) (graph : AigGraph) (marks : List Bool) (g : ℕ) →
    AreMarkedUniversals f graph marks → AreClosed graph marks → bit_of marks (graph.inputs + g) ≡ true →
    (m n : Node) (negated : Bool) →
    IsGateLook graph g false (LookGate m n negated) → IsEarlierNode (length f.universals) g m × IsEarlierNode
    (length f.universals) g n
sides_over_universals f graph marks g low closed marked m n negated look =
    search (
      arith,
      (over_universals f graph marks g low look.sides.left look.are_sides.left),
      (over_universals f graph marks g low look.sides.right look.are_sides.right),
    )
