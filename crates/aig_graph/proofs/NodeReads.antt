-- Marks of what a node reads.
use Rattle.std.proofs.Common.{◌≡◌, ℕ, zero, suc, ◌+◌, ◌≤◌, ◌<◌, Bool, true, false, inl, inr, ◌⊎◌, List, ◌++◌, length, Some, Contains, sym, ◌∙◌, ap, subst, arith}
use Rattle.std.specs.Prelude.{◌↔◌}
use Rattle.std.proofs.lemmas.Bool.{false≢true}
use Rattle.std.proofs.lemmas.List.Elements.{Contains-append_cases, Contains-append_left, Contains-append_right}
use Rattle.list_laws.proofs.Numbers.{below_or_here}
use Rattle.list_laws.proofs.Options.{some_is}
use Rattle.dq_lits.specs.Row.{bit_of}
use Rattle.aig_graph.specs.declared.nodes.Node.{Node}
use Rattle.aig_graph.specs.declared.nodes.Node.TheVariants.{Constant, Input, Gate}
use Rattle.aig_graph.specs.declared.nodes.Sides.{Sides}
use Rattle.aig_graph.specs.Graph.{AigGraph, node_support, gate_support, IsEarlierNode, IsNode, IsGraph, AreSides, gate_at, place_of, gate_count}
use Rattle.aig_graph.specs.Marking.{IsReadFrom, IsReached}
use Rattle.aig_graph.proofs.LargerGraphs.{gate_support_at, more_earlier}

-- the node reads the inputs that are reached
pub record AreMarks (graph : AigGraph) (n : Node) (old marks : List Bool) (count : ℕ) : Type 0 where
  pub reached : (i : ℕ) → i < graph.inputs → (IsReached graph count marks i ↔ Contains (node_support graph n) i)
  pub within : count ≤ length graph.gates
  pub same_length : length marks ≡ length old

abbrev pub IsMarkedBy : AigGraph → List Bool → List Bool → Node → Type 0
IsMarkedBy graph old new n = (p : ℕ) → ((bit_of new p ≡ true) ↔
    ((bit_of old p ≡ true) ⊎ (place_of graph.inputs n ≡ Some p)))

-- an input on its place, or a marked gate, that the node reads
node_reaches : (graph : AigGraph) (count : ℕ) (marks : List Bool) (n : Node) → IsEarlierNode graph.inputs count n →
    ((p : ℕ) → place_of graph.inputs n ≡ Some p → bit_of marks p ≡ true) →
    (i : ℕ) → Contains (node_support graph n) i → IsReached graph count marks i
node_reaches graph count marks (Constant b) earlier marked i (k, below, is) = absurd (omega arith)
node_reaches graph count marks (Input j negated) earlier marked i (zero, below, is) = inl (marked i (ap Some is))
node_reaches graph count marks (Input j negated) earlier marked i (suc k, below, is) = absurd (omega arith)
node_reaches graph count marks (Gate g negated) earlier marked i has = search arith

-- what a node's place reaches, the node reads
place_reads : (graph : AigGraph) (n : Node) (i : ℕ) → i < graph.inputs → place_of graph.inputs n ≡ Some i →
    Contains (node_support graph n) i
place_reads graph (Constant b) i below is = cc
place_reads graph (Input j negated) i below is = (0, omega arith, some_is is)
place_reads graph (Gate g negated) i below is = let e = some_is is in absurd (omega (arith, e, below))

gate_reads : (graph : AigGraph) (n : Node) (g : ℕ) → IsEarlierNode graph.inputs (length graph.gates) n →
    place_of graph.inputs n ≡ Some (graph.inputs + g) → node_support graph n ≡ gate_support graph.gates g
gate_reads graph (Constant b) g earlier is = cc
gate_reads graph (Input j negated) g earlier is = let e = some_is is in absurd (omega (arith, e, earlier))
gate_reads graph (Gate h negated) g earlier is = search (arith, some_is)

pub sides_marked : (graph : AigGraph) (g : ℕ) (s : Sides) (old mid new : List Bool) → IsGraph graph →
    g < length graph.gates → gate_at graph.gates g ≡ Some s → AreSides graph.inputs g s →
    bit_of old (graph.inputs + g) ≡ true →
    IsMarkedBy graph old mid s.left → IsMarkedBy graph mid new s.right → (i : ℕ) → i < graph.inputs →
    (IsReached graph (g + 1) old i ↔ IsReached graph g new i)
sides_marked graph g s old mid new lawful inside at sides is_marked first second i small = (forth, back) where
  support : gate_support graph.gates g ≡ node_support graph s.left ++ node_support graph s.right
  support = gate_support_at graph.inputs graph.gates g s lawful.gates at

  kept : (p : ℕ) → bit_of old p ≡ true → bit_of new p ≡ true
  kept p h = (second p).1 (inl ((first p).1 (inl h)))

  left_marked : (p : ℕ) → place_of graph.inputs s.left ≡ Some p → bit_of new p ≡ true
  left_marked p h = (second p).1 (inl ((first p).1 (inr h)))

  right_marked : (p : ℕ) → place_of graph.inputs s.right ≡ Some p → bit_of new p ≡ true
  right_marked p h = (second p).1 (inr h)

  from_gate : Contains (gate_support graph.gates g) i → IsReached graph g new i
  from_gate has = elim (Contains-append_cases (node_support graph s.left) (node_support graph s.right) i
      (subst (λ xs. Contains xs i) support has)) [
        | inl of_left ↦ node_reaches graph g new s.left sides.left left_marked i of_left
        | inr of_right ↦ node_reaches graph g new s.right sides.right right_marked i of_right
      ]

  by_number : (r : IsReadFrom graph (g + 1) old i) → (r.gate < g) ⊎ (r.gate ≡ g) → IsReached graph g new i
  by_number r (inl below) = inr (record {
    gate = r.gate;
    below = below;
    marked = kept (graph.inputs + r.gate) r.marked;
    reads = r.reads;
  })
  by_number r (inr is) = from_gate (subst (λ h. Contains (gate_support graph.gates h) i) is r.reads)

  forth : IsReached graph (g + 1) old i → IsReached graph g new i
  forth (inl h) = inl (kept i h)
  forth (inr r) = by_number r (below_or_here r.gate g r.below)

  into_gate : Contains (node_support graph s.left) i ⊎ Contains (node_support graph s.right) i →
      IsReached graph (g + 1) old i
  into_gate (inl of_left) = inr (record {
    gate = g;
    below = omega arith;
    marked = is_marked;
    reads =
        subst (λ xs. Contains xs i) (sym support) (Contains-append_left (node_support graph s.left)
        (node_support graph s.right) i of_left);
  })
  into_gate (inr of_right) = inr (record {
    gate = g;
    below = omega arith;
    marked = is_marked;
    reads =
        subst (λ xs. Contains xs i) (sym support) (Contains-append_right (node_support graph s.left)
        (node_support graph s.right) i of_right);
  })

  more : (n : Node) → IsEarlierNode graph.inputs g n → IsEarlierNode graph.inputs (length graph.gates) n
  more n earlier = more_earlier graph.inputs g (length graph.gates) (omega (arith, inside)) n earlier

  of_place : (p : ℕ) → bit_of new p ≡ true → (bit_of old p ≡ true) ⊎
      ((place_of graph.inputs s.left ≡ Some p) ⊎ (place_of graph.inputs s.right ≡ Some p))
  of_place p h = elim ((second p).0 h) [
    | inl before ↦ elim ((first p).0 before) [ inl there ↦ inl there | inr left ↦ inr (inl left) ]
    | inr right ↦ inr (inr right)
  ]

  back : IsReached graph g new i → IsReached graph (g + 1) old i
  back (inl h) = elim (of_place i h) [
    | inl there ↦ inl there
    | inr side ↦ elim side [
      | inl left ↦ into_gate (inl (place_reads graph s.left i small left))
      | inr right ↦ into_gate (inr (place_reads graph s.right i small right))
    ]
  ]
  back (inr r) =
      let below = r.below in
      elim (of_place (graph.inputs + r.gate) r.marked) [
        | inl there ↦ inr (record { gate = r.gate; below = omega (arith, below); marked = there; reads = r.reads })
        | inr side ↦ elim side [
          | inl left ↦ into_gate (inl (subst (λ xs. Contains xs i)
              (sym (gate_reads graph s.left r.gate (more s.left sides.left) left)) r.reads))
          | inr right ↦ into_gate (inr (subst (λ xs. Contains xs i)
              (sym (gate_reads graph s.right r.gate (more s.right sides.right) right)) r.reads))
        ]
      ]

-- the node's place alone
pub first_marks : (graph : AigGraph) (n : Node) (old cleared marks : List Bool) → IsNode graph n →
    ((p : ℕ) → bit_of cleared p ≡ false) → ((p : ℕ) → ((bit_of marks p ≡ true) ↔
    ((bit_of cleared p ≡ true) ⊎ (place_of graph.inputs n ≡ Some p)))) →
    length marks ≡ length old → AreMarks graph n old marks (gate_count n)
first_marks graph n old cleared marks is_node none marked long =
    search (arith, false≢true, place_reads, gate_reads, node_reaches)

pub marks_go_on : (graph : AigGraph) (n : Node) (old marks more : List Bool) (g : ℕ) →
    AreMarks graph n old marks (g + 1) → ((i : ℕ) → i < graph.inputs →
    (IsReached graph (g + 1) marks i ↔ IsReached graph g more i)) → length more ≡ length marks →
    AreMarks graph n old more g
marks_go_on graph n old marks more g before step long = record {
  reached = λ i small. let b = before.reached i small in let s = step i small in
      ((λ h. b.0 (s.1 h)), (λ h. s.0 (b.1 h)));
  within = let w = before.within in omega (arith, w);
  same_length = long ∙ before.same_length;
}
