-- A log's leaf of a node has the node's value, and reads inputs of its cone alone.
use Rattle.std.proofs.Common.{◌≡◌, ℕ, Bool, true, false, not, ◌&&◌, ◌⊎◌, inl, inr, List, [], ◌∷◌, ◌++◌, map, slice_index, Option, Some, refl, sym, ◌∙◌, ap, subst, arith}
use Rattle.std.specs.List.{Contains}
use Rattle.std.proofs.lemmas.List.Elements.{Contains-append_left, Contains-append_right}
use Rattle.list_laws.proofs.Elements.{index_of}
use Rattle.dq_lits.specs.Literal.{Assignment, Literal, positive, negative, variable_of}
use Rattle.dq_lits.specs.Formula.{Dqbf}
use Rattle.hint_log.specs.Entries.{name_of, Entry}
use Rattle.hint_log.specs.declared.names.Name.{Name}
use Rattle.hint_log.specs.declared.names.Name.TheVariants.{Input as InputName, And}
use Rattle.hint_log.specs.declared.origins.Leaf.{Leaf}
use Rattle.hint_log.specs.declared.origins.Leaf.TheVariants.{Literal as LeafLiteral}
use Rattle.aig_graph.specs.declared.nodes.Node.{Node}
use Rattle.aig_graph.specs.declared.nodes.Node.TheVariants.{Input, Gate}
use Rattle.aig_graph.specs.Graph.{AigGraph, with_sign, gate_value, node_value, node_support}
use Rattle.hint_log.specs.Origins.{leaf_with_sign}
use Rattle.log_laws.specs.Circuits.{value_in, leaf_value}
use Rattle.circuit_cnf.specs.Leaves.{LeavesHaveNodesValues, LeavesReadNodesCones, HasLeaf, constant, input, gate}
use Rattle.hint_log.specs.Conditions.{AreLogged}
use Rattle.hint_log.specs.Deciding.{ReadsInput, itself, left, right, LeafReads}
use Rattle.aig_graph.proofs.LargerGraphs.{gate_value_in, gate_support_in}
use Rattle.log_laws.proofs.Solved.{gate_value_is, value_is}

and_same : (a b c d : Bool) → a ≡ c → b ≡ d → (a && b) ≡ (c && d)
and_same a b c d h k = ap (λ x. x && b) h ∙ ap (λ x. c && x) k

pub signed_leaf : (a : Assignment) (negated : Bool) (v : ℕ) (b : Bool) → b ≡ a v →
    with_sign negated b ≡ leaf_value a (leaf_with_sign negated (LeafLiteral (positive v)))
signed_leaf a false v b h = h
signed_leaf a true v b h = ap not h

module _ (f : Dqbf) (graph : AigGraph) (entries : List Entry) where
  module _ (lawful : AreLogged entries) (m : Assignment) (bad : ℕ → Bool) where
    abbrev inputs : ℕ → Bool
    inputs i = m (slice_index f.universals i)

    value_is_node : (node : Node) (leaf : Leaf) → HasLeaf f graph entries node leaf →
        node_value graph inputs node ≡ leaf_value (value_in m bad entries) leaf
    value_is_node node leaf (constant b) = refl
    value_is_node node leaf (input i x v negated place named) =
        signed_leaf (value_in m bad entries) negated v (inputs i)
        (ap m (index_of f.universals i x place) ∙ sym (value_is m bad entries v (InputName x) (m x) named refl))
    value_is_node node leaf (gate g v sides negated a b at are_sides on_left on_right named) =
        signed_leaf (value_in m bad entries) negated v (gate_value inputs graph.gates g)
        (gate_value_in inputs graph.inputs graph.gates g sides are_sides at
        ∙ and_same _ _ _ _ (value_is_node sides.left (LeafLiteral a) on_left)
        (value_is_node sides.right (LeafLiteral b) on_right)
        ∙ sym (gate_value_is m bad entries v a b lawful named))

  -- how a literal reads an input
  abbrev IsRead : Option Name → ℕ → Type 0
  IsRead o x = (o ≡ Some (InputName x)) ⊎ ((a : Literal) × (b : Literal) × (o ≡ Some (And a b)) ×
      (ReadsInput entries a x ⊎ ReadsInput entries b x))

  read_cases : (l : Literal) (x : ℕ) → ReadsInput entries l x → IsRead (name_of entries (variable_of l)) x
  read_cases l x (itself _ _ h) = inl h
  read_cases l x (left _ a b _ h r) = inr (a, b, h, inl r)
  read_cases l x (right _ a b _ h r) = inr (a, b, h, inr r)

  read_of : (negated : Bool) (v x : ℕ) → LeafReads entries (leaf_with_sign negated (LeafLiteral (positive v))) x →
      IsRead (name_of entries v) x
  read_of false v x h = read_cases (positive v) x h
  read_of true v x h = read_cases (negative v) x h

  contains_map : (g : ℕ → ℕ) (xs ys : List ℕ) (x : ℕ) → Contains (map g xs) x ⊎ Contains (map g ys) x →
      Contains (map g (xs ++ ys)) x
  contains_map g xs ys x h = subst (λ zs. Contains zs x) (sym (mapped xs)) (by_side h) where
    mapped : (zs : List ℕ) → map g (zs ++ ys) ≡ map g zs ++ map g ys
    mapped [] = refl
    mapped (z ∷ zs) = ap (λ r. g z ∷ r) (mapped zs)

    by_side : Contains (map g xs) x ⊎ Contains (map g ys) x → Contains (map g xs ++ map g ys) x
    by_side (inl i) = Contains-append_left (map g xs) (map g ys) x i
    by_side (inr i) = Contains-append_right (map g xs) (map g ys) x i

  abbrev cone : Node → List ℕ
  cone node = map (slice_index f.universals) (node_support graph node)

  reads_cone : (node : Node) (leaf : Leaf) → HasLeaf f graph entries node leaf → (x : ℕ) → LeafReads entries leaf x →
      Contains (cone node) x
  reads_cone node leaf (constant b) x r = absurd r
  reads_cone node leaf (input i y v negated place named) x r = by_case (read_of negated v x r) where
    by_case : IsRead (name_of entries v) x → Contains (cone (Input i negated)) x
    by_case (inl h) = let both : Some (InputName y) ≡ Some (InputName x) = sym named ∙ h in let same : y ≡ x = cc in
        (0, omega arith, index_of f.universals i y place ∙ same)
    by_case (inr h) = let both : Some (InputName y) ≡ Some (And h.0 h.1) = sym named ∙ h.2 in cc
  reads_cone node leaf (gate g v sides negated a b at are_sides on_left on_right named) x r =
      by_case (reads_cone sides.left (LeafLiteral a) on_left x) (reads_cone sides.right (LeafLiteral b) on_right x)
      (read_of negated v x r) where
        by_case : (ReadsInput entries a x → Contains (cone sides.left) x) →
            (ReadsInput entries b x → Contains (cone sides.right) x) → IsRead (name_of entries v) x →
            Contains (cone (Gate g negated)) x
        by_case on_a on_b (inl h) = let both : Some (And a b) ≡ Some (InputName x) = sym named ∙ h in cc
        by_case on_a on_b (inr h) =
            let both : Some (And a b) ≡ Some (And h.0 h.1) = sym named ∙ h.2 in
            let same_a : a ≡ h.0 = cc in
            let same_b : b ≡ h.1 = cc in
            subst (λ (zs : List ℕ). Contains (map (slice_index f.universals) zs) x)
            (sym (gate_support_in graph.inputs graph.gates g sides are_sides at))
            (contains_map (slice_index f.universals) (node_support graph sides.left) (node_support graph sides.right) x
            (elim h.3 [
              | inl q ↦ inl (on_a (subst (λ l. ReadsInput entries l x) (sym same_a) q))
              | inr q ↦ inr (on_b (subst (λ l. ReadsInput entries l x) (sym same_b) q))
            ]))

pub leaves_have_nodes_values : LeavesHaveNodesValues
leaves_have_nodes_values f graph entries node leaf lawful has m bad =
    value_is_node f graph entries lawful m bad node leaf has

pub leaves_read_nodes_cones : LeavesReadNodesCones
leaves_read_nodes_cones f graph entries node leaf has x reads = reads_cone f graph entries node leaf has x reads
