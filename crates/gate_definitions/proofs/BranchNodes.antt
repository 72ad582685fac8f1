-- Nodes of decision trees.
use Rattle.std.proofs.Common.{◌≡◌, ℕ, ◌+◌, ◌&&◌, Bool, true, false, not, inl, inr, List, [], ◌∷◌, map, length, get_or, Some, All, Contains, refl, sym, ◌∙◌, ap, subst, arith, if◌then◌else◌}
use Rattle.std.proofs.lemmas.Bool.{cases_Bool}
use Rattle.std.proofs.lemmas.List.Elements.{All-map, Contains-get_or}
use Rattle.list_laws.proofs.Truths.{not_true}
use Rattle.list_laws.proofs.Members.{one_mapped}
use Rattle.dq_lits.specs.Literal.{Literal, positive, negative, opposite, variable_of, literal_true}
use Rattle.dq_lits.specs.Formula.{Existential, Dqbf, existential_of}
use Rattle.dq_lits.specs.Henkin.{MatrixHolds}
use Rattle.dq_lits.proofs.Truth.{literal_true-opposite}
use Rattle.dq_lits.proofs.FormulaVariables.{find_sound}
use Rattle.dq_formula.specs.Prefix.{IsLawful}
use Rattle.dq_formula.specs.Rules.{cube_true}
use Rattle.aig_graph.specs.declared.nodes.Node.{Node}
use Rattle.aig_graph.specs.declared.nodes.Node.TheVariants.{Constant}
use Rattle.aig_graph.specs.Graph.{AigGraph, node_value, node_support}
use Rattle.aig_graph.specs.Made.{Extends, IsChosen}
use Rattle.definition_order.specs.Order.{MayRead}
use Rattle.defining_nodes.specs.Definitions.{IsDefinition, input_variable}
use Rattle.gate_definitions.specs.Stating.{Implies, literal_node}
use Rattle.gate_definitions.specs.Branches.{IsDefinitionUnder}
use Rattle.gate_definitions.proofs.GateNodes.{read_is_declared, literal_value, literal_reads}

-- a node stays one where the graph grows
pub later : (f : Dqbf) (ranks : List ℕ) (old new : AigGraph) (path : List Literal) (e : Existential) (node : Node) →
    Extends old new → IsDefinitionUnder f ranks old path e node → IsDefinitionUnder f ranks new path e node
later f ranks old new path e node more under = record {
  is_node = more.nodes node under.is_node;
  reads = subst (λ is. All (MayRead f ranks e) (map (input_variable f) is))
      (sym (more.supports node under.is_node)) under.reads;
  defines = λ m holds all. under.defines m holds all ∙ sym (more.values node under.is_node
      (λ i. m (input_variable f i)));
}

pub whole : (f : Dqbf) (ranks : List ℕ) (graph : AigGraph) (e : Existential) (node : Node) →
    IsDefinitionUnder f ranks graph [] e node → IsDefinition f ranks graph e node
whole f ranks graph e node under = record {
  is_node = under.is_node;
  reads = under.reads;
  defines =
      λ m holds. under.defines m holds refl;
}

module _ (f : Dqbf) (ranks : List ℕ) (y : ℕ) (e : Existential) (known : existential_of f y ≡ Some e)
    (path : List Literal) where
  own : e.variable ≡ y
  own = (find_sound y f.existentials e known).1

  constant : (graph : AigGraph) (b : Bool) (node : Node) → node ≡ Constant b →
      ((m : ℕ → Bool) → MatrixHolds f m → cube_true m path ≡ true → m e.variable ≡ b) →
      IsDefinitionUnder f ranks graph path e node
  constant graph b node is same = subst (IsDefinitionUnder f ranks graph path e) (sym is)
      (record { is_node = tt; reads = λ k d lt. absurd (omega (arith, lt)); defines = same })

  pub true_leaf : (graph : AigGraph) (l : Literal) (node : Node) → l ≡ positive y → Implies f path l →
      node ≡ Constant true → IsDefinitionUnder f ranks graph path e node
  true_leaf graph l node on implied is = constant graph true node is
      (λ m holds all. ap m own ∙ ap (literal_true m) (sym on) ∙ implied m holds all)

  pub false_leaf : (graph : AigGraph) (l : Literal) (node : Node) → l ≡ negative y → Implies f path l →
      node ≡ Constant false → IsDefinitionUnder f ranks graph path e node
  false_leaf graph l node on implied is = constant graph false node is
      (λ m holds all. ap m own ∙ not_true (m y) (ap (literal_true m) (sym on) ∙ implied m holds all))

  -- a choice by a literal between nodes for both of its values
  pub test_defines : (graph new : AigGraph) → graph.inputs ≡ length f.universals + length f.existentials → IsLawful f →
      (l opposed : Literal) (c one zero made : Node) → opposed ≡ opposite l → MayRead f ranks e (variable_of l)
      → c ≡ literal_node f l → IsDefinitionUnder f ranks graph (l ∷ path) e one →
      IsDefinitionUnder f ranks graph (opposed ∷ path) e zero → IsChosen graph new c one zero made →
      IsDefinitionUnder f ranks new path e made
  test_defines graph new inputs lawful l opposed c one zero made against may c_is first second made_is =
      let among = read_is_declared f ranks lawful y e known (variable_of l) may in
      let chosen : IsChosen graph new (literal_node f l) one zero made =
      subst (λ n. IsChosen graph new n one zero made) c_is made_is in
      let values : (ℕ → Bool) → ℕ → Bool = λ m i. m (input_variable f i) in
      let pick : (m : ℕ → Bool) (b : Bool) → literal_true m l ≡ b →
      node_value new (values m) made ≡ (if b then node_value graph (values m) one else node_value graph
      (values m) zero) = λ m b is.
      chosen.value (values m) ∙ ap (λ t. if t then node_value graph (values m) one else node_value graph
      (values m) zero) (literal_value f graph inputs m l among ∙ is) in
      let reads : (i : ℕ) → Contains (node_support new made) i → MayRead f ranks e (input_variable f i) =
      λ i read. elim (chosen.reads i read) [
        | inl tested ↦ literal_reads f graph inputs ranks e l among may i tested
        | inr rest ↦ elim rest [
          | inl chosen_one ↦ one_mapped (MayRead f ranks e) (input_variable f)
              (node_support graph one) i first.reads chosen_one
          | inr chosen_zero ↦ one_mapped (MayRead f ranks e) (input_variable f)
              (node_support graph zero) i second.reads chosen_zero
        ]
      ] in
      record {
        is_node = chosen.is_node;
        reads = All-map (MayRead f ranks e) (input_variable f) (node_support new made)
            (λ k d lt. reads (get_or (node_support new made) k d) (Contains-get_or (node_support new made) k d lt));
        defines = λ m holds all. elim (cases_Bool (literal_true m l)) [
          | inl is ↦ first.defines m holds (ap (λ b. b && cube_true m path) is ∙ all) ∙ sym (pick m true is)
          | inr denied ↦ second.defines m holds (ap (λ b. b && cube_true m path)
              (ap (literal_true m) against ∙ literal_true-opposite m l ∙ ap not denied) ∙ all) ∙ sym
              (pick m false denied)
        ];
      }
