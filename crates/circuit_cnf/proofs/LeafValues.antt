-- From the values of leaves to those of the outputs at a row.
use Rattle.std.proofs.Common.{◌≡◌, ℕ, zero, suc, ◌<◌, ◌==◌, Bool, false, ◌&&◌, List, [], ◌∷◌, map, length, get_or, slice_get, position, Some, refl, sym, ◌∙◌, ap, arith}
use Rattle.std.proofs.lemmas.List.{get_or-map}
use Rattle.list_laws.proofs.Sequences.{mapped_long}
use Rattle.dq_lits.specs.Literal.{Assignment, Literal, positive, variable_of, literal_true}
use Rattle.dq_lits.specs.Formula.{Dqbf, Existential}
use Rattle.dq_lits.specs.Row.{bit_of}
use Rattle.aig_graph.specs.declared.nodes.Node.{Node}
use Rattle.aig_graph.specs.declared.nodes.Node.TheVariants.{Constant}
use Rattle.aig_graph.specs.Graph.{AigGraph, gate_value, node_value}
use Rattle.aig_graph.proofs.LargerGraphs.{gate_value_in}
use Rattle.hint_log.specs.Entries.{Entry, name_of}
use Rattle.hint_log.specs.declared.names.Name.TheVariants.{Input as InputName, And}
use Rattle.hint_log.specs.declared.origins.Leaf.{Leaf}
use Rattle.hint_log.specs.declared.origins.Leaf.TheVariants.{Constant as LeafConstant, Literal as LeafLiteral}
use Rattle.hint_log.specs.Conditions.{AreLogged}
use Rattle.hint_log.specs.Naming.{round_assignment}
use Rattle.hint_log.proofs.Lawful.{names_are_unique_lem}
use Rattle.log_laws.specs.Circuits.{leaf_value}
use Rattle.log_laws.proofs.Found.{slice_get_at}
use Rattle.circuit_cnf.specs.Checking.{AreInputs}
use Rattle.circuit_cnf.specs.Failing.{HasFalseClause}
use Rattle.circuit_cnf.specs.Faults.{leaf_of}
use Rattle.circuit_cnf.specs.Leaves.{HasLeaf, constant, input, gate}
use Rattle.circuit_cnf.specs.Turning.{AreLeavesOf, AreFailing}
use Rattle.circuit_cnf.proofs.PrefixPlaces.{round_is, leaf_is, same_at_places}
use Rattle.circuit_cnf.proofs.SideLeaves.{input_at}
use Rattle.circuit_cnf.proofs.LeafNodes.{signed_leaf}
use Rattle.dq_lits.proofs.TrueClauses.{clause_same}

get_at : {X : Type 0} (xs : List X) (k : ℕ) (x d : X) → slice_get xs k ≡ Some x → (k < length xs) × (get_or xs k d ≡ x)
get_at [] k x d h = cc
get_at (y ∷ ys) zero x d h = (omega arith, cc)
get_at (y ∷ ys) (suc k) x d h = let r = get_at ys k x d h in let below = r.0 in (omega (arith, below), r.1)

module _ (f : Dqbf) (graph : AigGraph) (es : List Entry) (inputs : List Literal) (values : Assignment)
    (logged : AreLogged es) (are : AreInputs f.universals inputs es) (count : length inputs ≡ length f.universals)
    (gates : (v : ℕ) (a b : Literal) → name_of es v ≡ Some (And a b) →
    values v ≡ (literal_true values a && literal_true values b)) where
  abbrev row : List Bool
  row = map (λ l. values (variable_of l)) inputs

  -- an input has its bit of the row
  input_bit : (i : ℕ) → i < length f.universals → (x v : ℕ) → get_or f.universals i 0 ≡ x →
      name_of es v ≡ Some (InputName x) → bit_of row i ≡ values v
  input_bit i below x v is named =
      let at = input_at es f.universals inputs i are below in
      let same : at.0 ≡ v = names_are_unique_lem es at.0 v (InputName x) logged (at.2 ∙ ap (λ u. Some (InputName u)) is) named in
      get_or-map (λ l. values (variable_of l)) inputs i (positive 0) false
      (let inside : i < length inputs = omega (arith, below, count) in inside)
      ∙ ap (λ l. values (variable_of l)) at.1 ∙ ap values same

  pub node_is_leaf : (node : Node) (leaf : Leaf) → HasLeaf f graph es node leaf →
      node_value graph (bit_of row) node ≡ leaf_value values leaf
  node_is_leaf node leaf (constant b) = refl
  node_is_leaf node leaf (input i x v negated place named) = search (arith, get_at, signed_leaf, input_bit)
  node_is_leaf node leaf (gate g v sides negated a b at are_sides on_left on_right named) =
      signed_leaf values negated v (gate_value (bit_of row) graph.gates g)
      (gate_value_in (bit_of row) graph.inputs graph.gates g sides are_sides at
      ∙ ap (λ x. x && node_value graph (bit_of row) sides.right) (node_is_leaf sides.left (LeafLiteral a) on_left)
      ∙ ap (λ x. literal_true values a && x) (node_is_leaf sides.right (LeafLiteral b) on_right)
      ∙ sym (gates v a b named))

  module _ (nodes : List Node) (leaves : List Leaf) (have : AreLeavesOf f graph es nodes leaves)
      (node_count : length nodes ≡ length f.existentials) where
    abbrev outputs : List Bool
    outputs = map (node_value graph (bit_of row)) nodes

    variables_long : (ys : List Existential) → length (map (λ y. y.variable) ys) ≡ length ys
    variables_long [] = refl
    variables_long (y ∷ ys) = let e = variables_long ys in omega (arith, e)

    output_bit : (k : ℕ) → k < length nodes → bit_of outputs k ≡ leaf_value values
        (get_or leaves k (LeafConstant false))
    output_bit k below =
        let at = slice_get_at nodes k (Constant false) below in
        let leaf_at = slice_get_at leaves k (LeafConstant false) (let c = have.count in omega (arith, below, c)) in
        get_or-map (node_value graph (bit_of row)) nodes k (Constant false) false below
        ∙ node_is_leaf (get_or nodes k (Constant false)) (get_or leaves k (LeafConstant false))
        (have.each k (get_or nodes k (Constant false)) (get_or leaves k (LeafConstant false)) at leaf_at)

    literal_bit : (i : ℕ) → i < length f.universals → bit_of row i ≡ literal_true values (get_or inputs i (positive 0))
    literal_bit i below =
        let at = input_at es f.universals inputs i are below in
        get_or-map (λ l. values (variable_of l)) inputs i (positive 0) false
        (let inside : i < length inputs = omega (arith, below, count) in inside)
        ∙ ap (λ l. values (variable_of l)) at.1 ∙ sym (ap (literal_true values) at.1)

    same_values : (v : ℕ) → round_assignment f row outputs v ≡ leaf_value values (leaf_of f inputs leaves v)
    same_values v =
        let ys = map (λ y. y.variable) f.existentials in
        round_is f row outputs v (mapped_long (λ l. values (variable_of l)) inputs ∙ count)
        (mapped_long (node_value graph (bit_of row)) nodes ∙ node_count)
        ∙ same_at_places (λ u. u == v) (λ y. y == v) f.universals ys (bit_of row)
        (λ p. literal_true values (get_or inputs p (positive 0))) (bit_of outputs)
        (λ p. leaf_value values (get_or leaves p (LeafConstant false)))
        literal_bit (λ k below. output_bit k (let e = variables_long f.existentials in
        omega (arith, below, e, node_count)))
        ∙ sym (leaf_is values inputs leaves (position (λ u. u == v) f.universals) (position (λ y. y == v) ys))

    pub falsified : AreFailing f (leaf_of f inputs leaves) es values → HasFalseClause f row outputs
    falsified failing = (
      failing.j,
      failing.among,
      clause_same (round_assignment f row outputs)
          (λ v. leaf_value values (leaf_of f inputs leaves v)) (get_or f.matrix failing.j []) same_values
          ∙ failing.is_false,
    )
