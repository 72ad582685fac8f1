-- What a turn's answer says of its outputs.
use Rattle.std.proofs.Common.{◌≡◌, ℕ, ◌<◌, ◌==◌, true, false, inl, inr, List, [], ◌∷◌, map, length, get_or, position, Option, Some, None, IsSome, refl, sym, ◌∙◌, ap, subst, arith}
use Rattle.std.proofs.lemmas.Bool.{true≢false, eqb-true}
use Rattle.std.proofs.lemmas.List.{get_or_default}
use Rattle.list_laws.proofs.Sequences.{mapped_long}
use Rattle.dq_lits.specs.Literal.{Literal, positive, variable_of}
use Rattle.dq_lits.specs.Formula.{Dqbf, Existential, IsWellFormed, is_universal}
use Rattle.aig_graph.specs.declared.nodes.Node.{Node}
use Rattle.aig_graph.specs.declared.nodes.Node.TheVariants.{Constant}
use Rattle.aig_graph.specs.Graph.{AigGraph}
use Rattle.aig_graph.specs.Outputs.{output_node, outputs_of}
use Rattle.hint_log.specs.Entries.{Entry, name_of}
use Rattle.hint_log.specs.declared.names.Name.TheVariants.{Input as InputName}
use Rattle.hint_log.specs.declared.origins.Leaf.{Leaf}
use Rattle.hint_log.specs.declared.origins.Leaf.TheVariants.{Constant as LeafConstant, Literal as LeafLiteral}
use Rattle.hint_log.specs.Conditions.{is_circuit_name}
use Rattle.hint_log.specs.Origins.{IsLeafOf}
use Rattle.log_laws.proofs.Found.{slice_get_at}
use Rattle.circuit_cnf.specs.Checking.{AreInputs}
use Rattle.circuit_cnf.specs.Faults.{leaf_of, leaf_by_place}
use Rattle.circuit_cnf.specs.Leaves.{HasLeaf}
use Rattle.circuit_cnf.specs.Shown.{HoldEverywhere, ShowsOutputs, IsShownBy, IsShownSince, ShownOutputsHold}
use Rattle.circuit_cnf.specs.Turning.{AreLeavesOf, IsHeldBy}
use Rattle.circuit_cnf.proofs.PrefixPlaces.{position_cases, some_place}
use Rattle.circuit_cnf.proofs.SideLeaves.{input_at, leaf_is_circuit, leaf_stays}
use Rattle.circuit_cnf.proofs.OutputValues.{nobody, node_at, existential_place, no_universal}

-- how many inputs there are
pub inputs_count : (es : List Entry) (us : List ℕ) (inputs : List Literal) → AreInputs us inputs es →
    length inputs ≡ length us
inputs_count es us inputs are = search (arith, mapped_long)

-- where inputs stand
pub inputs_named : (es : List Entry) (us : List ℕ) (inputs : List Literal) → AreInputs us inputs es →
    length inputs ≡ length us → (k : ℕ) (d : Literal) → k < length inputs →
    IsSome (name_of es (variable_of (get_or inputs k d)))
inputs_named es us inputs are count k d below =
    let at = input_at es us inputs k are (omega (arith, below, count)) in
    let is : get_or inputs k d ≡ positive at.0 = get_or_default inputs k d (positive 0) below ∙ at.1 in
    subst (λ l. IsSome (name_of es (variable_of l))) (sym is) (subst IsSome (sym at.2) refl)

module _ (f : Dqbf) (graph : AigGraph) (es : List Entry) (inputs : List Literal) (nodes : List Node)
    (leaves : List Leaf) (are : AreInputs f.universals inputs es) (have : AreLeavesOf f graph es nodes leaves) where
  leaf_has : (k : ℕ) → k < length nodes → HasLeaf f graph es (get_or nodes k (Constant false))
      (get_or leaves k (LeafConstant false))
  leaf_has k below = search (arith, slice_get_at)

  node_leaf_is : (v : ℕ) (n : Node) (leaf : Leaf) → is_universal f v ≡ false → HasLeaf f graph es n leaf →
      IsLeafOf f es v leaf
  node_leaf_is v n (LeafConstant b) isnt has = isnt
  node_leaf_is v n (LeafLiteral l) isnt has = search (arith, true≢false, leaf_is_circuit)

  -- a variable's leaf is one
  pub leaf_is_one : length nodes ≡ length f.existentials → (v : ℕ) → IsLeafOf f es v (leaf_of f inputs leaves v)
  leaf_is_one node_count v = elim (position_cases (λ u. u == v) f.universals) [
    | inl found ↦ subst (λ p. IsLeafOf f es v (leaf_by_place inputs leaves p q)) (sym found.3)
        (universal found.0 found.1 found.2)
    | inr none ↦ subst (λ p. IsLeafOf f es v (leaf_by_place inputs leaves p q)) (sym none.1) (existential none.0 q refl)
  ] where
    q : Option ℕ
    q = position (λ y. y == v) (map (λ y. y.variable) f.existentials)

    universal : (i : ℕ) → i < length f.universals → (get_or f.universals i 0 == v) ≡ true →
        IsLeafOf f es v (LeafLiteral (get_or inputs i (positive 0)))
    universal i below is =
        let at = input_at es f.universals inputs i are below in
        let name : name_of es at.0 ≡ Some (InputName v) = at.2 ∙ ap (λ x. Some (InputName x))
        (eqb-true (get_or f.universals i 0) v is) in
        subst (λ l. IsLeafOf f es v (LeafLiteral l)) (sym at.1) ((λ u. (refl, name)), ap is_circuit_name name)

    long : (ys : List Existential) → length (map (λ y. y.variable) ys) ≡ length ys
    long [] = refl
    long (y ∷ ys) = let e = long ys in omega (arith, e)

    existential : is_universal f v ≡ false → (o : Option ℕ) →
        position (λ y. y == v) (map (λ y. y.variable) f.existentials) ≡ o →
        IsLeafOf f es v (leaf_by_place inputs leaves None o)
    existential isnt None e = isnt
    existential isnt (Some k) e =
        let below = some_place (λ y. y == v) (map (λ y. y.variable) f.existentials) k e in
        let count = long f.existentials in
        node_leaf_is v (get_or nodes k (Constant false)) (get_or leaves k (LeafConstant false)) isnt
        (leaf_has k (omega (arith, below, count, node_count)))

  pub shows : (log : List Entry) (id : ℕ) → IsWellFormed f → length nodes ≡ length f.existentials →
      (held : IsHeldBy f (leaf_of f inputs leaves) es log id) →
      ShowsOutputs f graph nodes held.earlier held.clause held.hints
  shows log id well node_count held = record {
    rests = held.rests;
    leaf = λ y. leaf_of f inputs leaves y.variable;
    named = λ k d below. subst (λ y. HasLeaf f graph held.earlier (output_node f nodes y)
        (leaf_of f inputs leaves y.variable)) (get_or_default f.existentials k nobody d below) (there k below);
    outs = λ k d below out at. held.outs (get_or f.existentials k d) out at;
  } where
    there : (k : ℕ) → k < length f.existentials → HasLeaf f graph held.earlier
        (output_node f nodes (get_or f.existentials k nobody))
        (leaf_of f inputs leaves (get_or f.existentials k nobody).variable)
    there k below =
        let v = (get_or f.existentials k nobody).variable in
        let leaf_is : leaf_of f inputs leaves v ≡ get_or leaves k (LeafConstant false) =
        ap (λ p. leaf_by_place inputs leaves p (position (λ y. y == v) (map (λ y. y.variable) f.existentials)))
        (no_universal f k well.prefix below)
        ∙ ap (leaf_by_place inputs leaves None) (existential_place f k well.prefix below) in
        subst (λ n. HasLeaf f graph held.earlier n (leaf_of f inputs leaves v))
        (sym (node_at f k well.prefix below nodes))
        (subst (HasLeaf f graph held.earlier (get_or nodes k (Constant false))) (sym leaf_is)
        (leaf_stays f graph es held.earlier held.names (get_or nodes k (Constant false))
        (get_or leaves k (LeafConstant false)) (leaf_has k (omega (arith, below, node_count)))))

  shown : (log : List Entry) (id : ℕ) → IsWellFormed f → length nodes ≡ length f.existentials →
      IsHeldBy f (leaf_of f inputs leaves) es log id → IsShownBy f graph nodes log id
  shown log id well node_count held = record {
    clause = held.clause;
    hints = held.hints;
    earlier = held.earlier;
    answered = held.answered;
    last = held.last;
    shows = shows log id well node_count held;
  }

  pub shown_since : (start log : List Entry) (id : ℕ) → IsWellFormed f → length nodes ≡ length f.existentials →
      ((v : ℕ) → name_of es v ≡ None → name_of start v ≡ None)
      → IsHeldBy f (leaf_of f inputs leaves) es log id → IsShownSince f graph nodes start log id
  unfolding shown shows
  shown_since start log id well node_count earlier held = record {
    shown = shown log id well node_count held;
    fresh = earlier held.rests.group held.fresh;
  }

  pub outputs_hold : ShownOutputsHold → (log : List Entry) (id : ℕ) → IsWellFormed f →
      length nodes ≡ length f.existentials → IsHeldBy f (leaf_of f inputs leaves) es log id →
      HoldEverywhere f (outputs_of f graph nodes)
  outputs_hold law log id well node_count held = law f graph nodes held.earlier held.clause held.hints well held.sound
      (shows log id well node_count held)
