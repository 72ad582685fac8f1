-- The nodes of gates.
use Rattle.std.proofs.Common.{◌≡◌, ℕ, suc, zero, ◌+◌, ◌<◌, ◌==◌, ◌&&◌, Bool, true, false, not, inl, inr, List, [], ◌∷◌, map, length, get_or, Some, IsSome, All, Contains, refl, sym, ◌∙◌, ap, subst, arith, if◌then◌else◌}
use Rattle.std.specs.List.{list_all, position_or_len}
use Rattle.std.proofs.lemmas.List.{length-append, length-map}
use Rattle.std.proofs.lemmas.List.Elements.{All-contains, All-head, All-tail, All-map, All-weaker, Contains-get_or, Contains-append_left, Contains-append_right}
use Rattle.dq_lits.specs.Literal.{Assignment, Literal, positive, negative, variable_of, is_negative, literal_true}
use Rattle.dq_lits.specs.Formula.{Existential, Dqbf, declared, existential_of}
use Rattle.dq_lits.specs.Henkin.{MatrixHolds}
use Rattle.dq_lits.proofs.FormulaVariables.{find_sound}
use Rattle.dq_formula.specs.Prefix.{IsLawful, existential_variables}
use Rattle.dq_formula.specs.Rules.{cube_true}
use Rattle.dq_formula.proofs.Places.{has-contains}
use Rattle.dq_formula.proofs.Sorted.{place-below, get_or-place}
use Rattle.aig_graph.specs.declared.nodes.Node.{Node}
use Rattle.aig_graph.specs.Graph.{AigGraph, IsNode, node_value, node_support, with_sign}
use Rattle.aig_graph.specs.Made.{IsCube, IsChosen}
use Rattle.definition_order.specs.Order.{MayRead}
use Rattle.defining_nodes.specs.Definitions.{IsDefinition, input_variable}
use Rattle.definition_order.proofs.Declared.{is_variable, sees_universals, some_existential, variable}
use Rattle.gate_definitions.specs.declared.choices.Choice.{Choice}
use Rattle.gate_definitions.specs.Stating.{AreReadable, IsConjunction, IsChoice, choice_literals, literal_node}

-- what a definition may read is declared
pub read_is_declared : (f : Dqbf) (ranks : List ℕ) → IsLawful f → (y : ℕ) (e : Existential) →
    existential_of f y ≡ Some e → (v : ℕ) → MayRead f ranks e v → Contains (declared f) v
read_is_declared f ranks lawful y e known v may = elim may [
  | inl seen ↦ Contains-append_left f.universals (existential_variables f) v
      (All-contains (Contains f.universals) e.sees v (sees_universals f lawful y e known) seen)
  | inr shared ↦ Contains-append_right f.universals (existential_variables f) v
      (is_variable f v (subst IsSome (sym shared.1) refl))
]

pub literals_are_declared : (f : Dqbf) (ranks : List ℕ) → IsLawful f → (y : ℕ) (e : Existential) →
    existential_of f y ≡ Some e → (lits : List Literal) → AreReadable f ranks e lits
    → All (λ l. Contains (declared f) (variable_of l)) lits
literals_are_declared f ranks lawful y e known lits reads =
    All-weaker (λ l. MayRead f ranks e (variable_of l)) (λ l. Contains (declared f) (variable_of l))
    (λ l may. read_is_declared f ranks lawful y e known (variable_of l) may) lits reads

pub choice_is_declared : (f : Dqbf) (ranks : List ℕ) → IsLawful f → (y : ℕ) (choice : Choice) →
    IsSome (existential_of f y) → ((e : Existential) → existential_of f y ≡ Some e → IsChoice f ranks e choice)
    → All (λ l. Contains (declared f) (variable_of l)) (choice_literals choice)
choice_is_declared f ranks lawful y choice is gate =
    some_existential f y (All (λ l. Contains (declared f) (variable_of l)) (choice_literals choice)) is
    (λ e known. literals_are_declared f ranks lawful y e known (choice_literals choice) (gate e known).reads)

pub conjunction_is_declared : (f : Dqbf) (ranks : List ℕ) → IsLawful f → (y : ℕ) (l : Literal) (lits : List Literal) →
    IsSome (existential_of f y) → ((e : Existential) → existential_of f y ≡ Some e → IsConjunction f ranks e l lits)
    → All (λ k. Contains (declared f) (variable_of k)) lits
conjunction_is_declared f ranks lawful y l lits is gate =
    some_existential f y (All (λ k. Contains (declared f) (variable_of k)) lits) is
    (λ e known. literals_are_declared f ranks lawful y e known lits (gate e known).reads)

module _ (f : Dqbf) (graph : AigGraph) (inputs : graph.inputs ≡ length f.universals + length f.existentials) where
  abbrev place : ℕ → ℕ
  place v = position_or_len (λ w. w == v) (declared f)

  abbrev values : Assignment → ℕ → Bool
  values m i = m (input_variable f i)

  below : (v : ℕ) → Contains (declared f) v → place v < graph.inputs
  below v among =
      let lt = place-below (declared f) v (has-contains (declared f) v among) in
      let all = length-append f.universals (existential_variables f) in
      let many = length-map f.existentials variable in
      omega (arith, lt, all, many, inputs)

  is_there : (v : ℕ) → Contains (declared f) v → input_variable f (place v) ≡ v
  is_there v among = get_or-place (declared f) v 0 (has-contains (declared f) v among)

  pub literal_is_node : (l : Literal) → Contains (declared f) (variable_of l) → IsNode graph (literal_node f l)
  literal_is_node l among = below (variable_of l) among

  signed_is : (m : Assignment) (l : Literal) → with_sign (is_negative l) (m (variable_of l)) ≡ literal_true m l
  signed_is m (positive v) = refl
  signed_is m (negative v) = refl

  pub literal_value : (m : Assignment) (l : Literal) → Contains (declared f) (variable_of l) →
      node_value graph (values m) (literal_node f l) ≡ literal_true m l
  literal_value m l among = ap (λ v. with_sign (is_negative l) (m v)) (is_there (variable_of l) among) ∙ signed_is m l

  pub literal_reads : (ranks : List ℕ) (e : Existential) (l : Literal) → Contains (declared f) (variable_of l) →
      MayRead f ranks e (variable_of l) → (i : ℕ) → Contains (node_support graph (literal_node f l)) i
      → MayRead f ranks e (input_variable f i)
  literal_reads ranks e l among may i reads = subst (MayRead f ranks e)
      (sym (is_there (variable_of l) among) ∙ ap (input_variable f) (the_one reads)) may
    where
      the_one : {p i : ℕ} → Contains (p ∷ []) i → p ≡ i
      the_one (zero, lt, at) = at
      the_one (suc k, lt, at) = absurd (omega (arith, lt))

  pub nodes_are : (lits : List Literal) → All (λ l. Contains (declared f) (variable_of l)) lits →
      All (IsNode graph) (map (literal_node f) lits)
  nodes_are lits among = search (arith, All-map, All-weaker, literal_is_node)

  cube_value : (m : Assignment) (lits : List Literal) → All (λ l. Contains (declared f) (variable_of l)) lits →
      list_all (node_value graph (values m)) (map (literal_node f) lits) ≡ cube_true m lits
  cube_value m [] among = refl
  cube_value m (l ∷ lits) among =
      let D : Literal → Type 0 = λ k. Contains (declared f) (variable_of k) in
      ap (λ b. b && list_all (node_value graph (values m)) (map (literal_node f) lits))
      (literal_value m l (All-head D l lits among))
      ∙ ap (λ b. literal_true m l && b) (cube_value m lits (All-tail D l lits among))

  module _ (ranks : List ℕ) (new : AigGraph) (y : ℕ) (e : Existential) (known : existential_of f y ≡ Some e)
      (lawful : IsLawful f) where
    -- a node that reads such inputs, and has the existential's value wherever the matrix is true
    defines : (node : Node) → IsNode new node → ((i : ℕ) → Contains (node_support new node) i →
        MayRead f ranks e (input_variable f i))
        → ((m : Assignment) → MatrixHolds f m → m e.variable ≡ node_value new (values m) node) →
        IsDefinition f ranks new e node
    defines node is reads same = record {
      is_node = is;
      reads = All-map (MayRead f ranks e) (input_variable f) (node_support new node)
          (λ k d lt. reads (get_or (node_support new node) k d) (Contains-get_or (node_support new node) k d lt));
      defines = same;
    }

    own : e.variable ≡ y
    own = (find_sound y f.existentials e known).1

    pub conjunction_defines : (l : Literal) (lits : List Literal) (nodes : List Node) (made node : Node) →
        variable_of l ≡ y → IsConjunction f ranks e l lits → nodes ≡ map (literal_node f) lits →
        IsCube graph new nodes made
        → (IsNode new made → IsNode new node) → ((inputs : ℕ → Bool) →
        node_value new inputs node ≡ with_sign (is_negative l) (node_value new inputs made))
        → node_support new node ≡ node_support new made → IsDefinition f ranks new e node
    conjunction_defines l lits nodes made node on gate nodes_is made_is is value support =
        let cube = subst (λ ns. IsCube graph new ns made) nodes_is made_is in
        let among = literals_are_declared f ranks lawful y e known lits gate.reads in
        let Reads : Node → Type 0 = λ n. (i : ℕ) → Contains (node_support graph n) i →
        MayRead f ranks e (input_variable f i) in
        let each : All Reads (map (literal_node f) lits) = All-map Reads (literal_node f) lits
        (λ k d lt. literal_reads ranks e (get_or lits k d) (among k d lt) (gate.reads k d lt)) in
        defines node (is cube.is_node)
        (λ i reads. (
        let by = cube.reads i (subst (λ xs. Contains xs i) support reads) in
        All-contains Reads (map (literal_node f) lits) by.node each by.among i by.reads))
        (λ m holds. (
        ap m (own ∙ sym on) ∙ turned m l (cube_true m lits) (gate.same m holds) ∙ ap (with_sign (is_negative l))
        (sym (cube.value (values m) ∙ cube_value m lits among))
        ∙ sym (value (values m))))
      where
        turned : (m : Assignment) (l : Literal) (b : Bool) → literal_true m l ≡ b →
            m (variable_of l) ≡ with_sign (is_negative l) b
        turned m (positive v) b h = h
        turned m (negative v) b h = not_back (m v) b h
          where
            not_back : (a b : Bool) → not a ≡ b → a ≡ not b
            not_back true b h = ap not h
            not_back false b h = ap not h

    pub choice_defines : (choice : Choice) (c' t' o' made : Node) → IsChoice f ranks e choice →
        c' ≡ literal_node f choice.condition → t' ≡ literal_node f choice.then_value
        → o' ≡ literal_node f choice.else_value → IsChosen graph new c' t' o' made → IsDefinition f ranks new e made
    choice_defines choice c' t' o' made gate c_is t_is o_is made_is =
        let chosen : IsChosen graph new (literal_node f choice.condition) (literal_node f choice.then_value)
        (literal_node f choice.else_value) made =
        subst (λ n. IsChosen graph new (literal_node f choice.condition) (literal_node f choice.then_value) n made) o_is
        (subst (λ n. IsChosen graph new (literal_node f choice.condition) n o' made) t_is
        (subst (λ n. IsChosen graph new n t' o' made) c_is made_is)) in
        let lits = choice.condition ∷ choice.then_value ∷ choice.else_value ∷ [] in
        let among = literals_are_declared f ranks lawful y e known lits gate.reads in
        let c = choice.condition in
        let t = choice.then_value in
        let o = choice.else_value in
        let in_c = among 0 c (omega arith) in
        let in_t = among 1 c (omega arith) in
        let in_o = among 2 c (omega arith) in
        defines made chosen.is_node
        (λ i reads. elim (chosen.reads i reads) [
          | inl first ↦ literal_reads ranks e c in_c (gate.reads 0 c (omega arith)) i first
          | inr rest ↦ elim rest [
            | inl second ↦ literal_reads ranks e t in_t (gate.reads 1 c (omega arith)) i second
            | inr third ↦ literal_reads ranks e o in_o (gate.reads 2 c (omega arith)) i third
          ]
        ])
        (λ m holds.
        gate.same m holds
        ∙ sym (chosen.value (values m)
        ∙ ap (λ b. if b then node_value graph (values m) (literal_node f t) else node_value graph (values m)
        (literal_node f o)) (literal_value m c in_c)
        ∙ ap (λ b. if literal_true m c then b else node_value graph (values m) (literal_node f o))
        (literal_value m t in_t)
        ∙ ap (λ b. if literal_true m c then literal_true m t else b) (literal_value m o in_o)))
