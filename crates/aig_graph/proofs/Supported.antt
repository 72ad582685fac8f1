-- A node's value depends on its support alone.
use Rattle.std.proofs.Common.{◌≡◌, ℕ, ◌==◌, Bool, true, false, cond, ◌&&◌, List, [], ◌∷◌, ◌++◌, map, length, refl, ◌∙◌, ap, slice_index, arith}
use Rattle.std.specs.List.{All}
use Rattle.std.proofs.lemmas.List.Elements.{All-head, All-tail, All-cons, All-nil}
use Rattle.dq_lits.specs.Formula.{Dqbf}
use Rattle.dq_lits.specs.Skolem.{IsSupported}
use Rattle.aig_graph.specs.declared.nodes.Node.{Node}
use Rattle.aig_graph.specs.declared.nodes.Node.TheVariants.{Constant, Input, Gate}
use Rattle.aig_graph.specs.declared.nodes.Sides.{Sides}
use Rattle.aig_graph.specs.Graph.{AigGraph, with_sign, value_by, gate_value, node_value, support_by, gate_support, node_support}
use Rattle.aig_graph.specs.Outputs.{node_output}

all_left : (P : ℕ → Type 0) (xs ys : List ℕ) → All P (xs ++ ys) → All P xs
all_left P [] ys h = All-nil P
all_left P (x ∷ xs) ys h = All-cons P x xs (All-head P x (xs ++ ys) h) (all_left P xs ys (All-tail P x (xs ++ ys) h))

all_right : (P : ℕ → Type 0) (xs ys : List ℕ) → All P (xs ++ ys) → All P ys
all_right P [] ys h = h
all_right P (x ∷ xs) ys h = all_right P xs ys (All-tail P x (xs ++ ys) h)

all_mapped : (P : ℕ → Type 0) (h : ℕ → ℕ) (xs : List ℕ) → All P (map h xs) → All (λ x. P (h x)) xs
all_mapped P h [] a = All-nil (λ x. P (h x))
all_mapped P h (x ∷ xs) a = search (arith, All-cons, All-head, (all_mapped P h xs), All-tail)

module _ (m n : ℕ → Bool) where
  abbrev Same : ℕ → Type 0
  Same i = m i ≡ n i

  value_same : (g h : ℕ → Bool) (s : ℕ → List ℕ) → ((k : ℕ) → All Same (s k) → g k ≡ h k) →
      (node : Node) → All Same (support_by s node) → value_by m g node ≡ value_by n h node
  value_same g h s same (Constant b) all = refl
  value_same g h s same (Input i negated) all = ap (with_sign negated) (All-head Same i [] all)
  value_same g h s same (Gate k negated) all = ap (with_sign negated) (same k all)

  gate_same : (gates : List Sides) (k : ℕ) → All Same (gate_support gates k) →
      gate_value m gates k ≡ gate_value n gates k
  gate_same [] k all = refl
  gate_same (gate ∷ earlier) k all = by_bit (gate_same earlier) (k == length earlier) all where
    by_bit : ((i : ℕ) → All Same (gate_support earlier i) → gate_value m earlier i ≡ gate_value n earlier i) →
        (b : Bool) → All Same (cond b (support_by (gate_support earlier) gate.left ++ support_by
        (gate_support earlier) gate.right) (gate_support earlier k)) →
        cond b (value_by m (gate_value m earlier) gate.left && value_by m (gate_value m earlier) gate.right)
        (gate_value m earlier k)
        ≡ cond b (value_by n (gate_value n earlier) gate.left && value_by n (gate_value n earlier) gate.right)
        (gate_value n earlier k)
    by_bit before true h =
        let left = value_same (gate_value m earlier) (gate_value n earlier) (gate_support earlier) before gate.left
        (all_left Same (support_by (gate_support earlier) gate.left)
        (support_by (gate_support earlier) gate.right) h) in
        let right = value_same (gate_value m earlier) (gate_value n earlier) (gate_support earlier) before gate.right
        (all_right Same (support_by (gate_support earlier) gate.left)
        (support_by (gate_support earlier) gate.right) h) in
        ap (λ b. b && value_by m (gate_value m earlier) gate.right) left ∙ ap
        (λ b. value_by n (gate_value n earlier) gate.left && b) right
    by_bit before false h = before k h

  pub node_same : (graph : AigGraph) (node : Node) → All Same (node_support graph node) →
      node_value graph m node ≡ node_value graph n node
  node_same graph node all = search (arith, value_same, gate_same)

pub output_supported : (f : Dqbf) (graph : AigGraph) (node : Node) → IsSupported (node_output f graph node)
output_supported f graph node m n all =
    node_same (λ i. m (slice_index f.universals i)) (λ i. n (slice_index f.universals i)) graph node
    (all_mapped (λ x. m x ≡ n x) (slice_index f.universals) (node_support graph node) all)
