-- The outputs of the first existentials, and of all of them.
use Rattle.std.proofs.Common.{◌≡◌, ℕ, ◌+◌, ◌<◌, Bool, false, List, [], ◌∷◌, ◌++◌, length, get_or, slice_get, Option, None, Some, sym, ◌∙◌, ap, subst, inl, inr, arith}
use Rattle.std.specs.List.{All, Contains}
use Rattle.std.proofs.lemmas.Bool.{cases_lt}
use Rattle.std.proofs.lemmas.List.{get_or_push, length_push, get_or_default}
use Rattle.std.proofs.Math.ListN.{get_or-append}
use Rattle.std.proofs.lemmas.List.Elements.{All-contains, All-weaker}
use Rattle.std.proofs.lemmas.Option.{slice_get-get_or}
use Rattle.list_laws.proofs.Members.{element_at}
use Rattle.dq_lits.specs.Literal.{Assignment}
use Rattle.dq_lits.specs.Formula.{Existential, Dqbf}
use Rattle.dq_formula.specs.Prefix.{IsLawful}
use Rattle.dq_formula.specs.declared.rules.Rule.{Rule}
use Rattle.defining_nodes.specs.Definitions.{IsDefinition, defining_output}
use Rattle.aig_graph.specs.Graph.{AigGraph, IsNode}
use Rattle.aig_graph.specs.Made.{Extends}
use Rattle.aig_graph.specs.Outputs.{node_output, output_node, outputs_of, ReadDeclared}
use Rattle.aig_graph.specs.declared.nodes.Node.{Node}
use Rattle.aig_graph.specs.declared.nodes.Node.TheVariants.{Constant}
use Rattle.aig_graph.proofs.LargerGraphs.{grown_twice}
use Rattle.expansion.specs.Table.{PointBits}
use Rattle.candidate_functions.specs.Candidates.{definition_of, AreDefinitions, AgreesAtPairs, AgreeAtPairs, FollowRules}
use Rattle.candidate_functions.specs.Pairs.{IsClass, IsByRules, AreByRules, IsFirstOutput, AreFirstOutputs}
use Rattle.candidate_functions.specs.Settling.{HaveValues, IsOutput, AreOutputs}
use Rattle.candidate_functions.specs.declared.classes.Class.{Class}
use Rattle.definition_order.proofs.Declared.{existential_at}
use Rattle.candidate_functions.proofs.LargerGraphs.{rule_node_stays, first_output_stays}

pub definition_there : (f : Dqbf) (ranks : List ℕ) → IsLawful f →
    (g : AigGraph) (definitions : List (Option Node)) (p : ℕ) (y : Existential) (node : Node) →
    AreDefinitions f ranks g definitions
    → slice_get f.existentials p ≡ Some y → get_or definitions p None ≡ Some node → IsDefinition f ranks g y node
definition_there f ranks lawful g definitions p y node are at is =
    All-contains (λ z. (n : Node) → definition_of f definitions z ≡ Some n → IsDefinition f ranks g z n) f.existentials
    y are (element_at f.existentials p y at) node
    (ap (λ k. get_or definitions k None) (existential_at f lawful.prefix p y at) ∙ is)

-- how far a walk over the existentials has come
pub record OutputsSoFar (f : Dqbf) (rows : List (List Bool)) (points : PointBits) (definitions : List (Option Node))
    (others : List Node) (old mid : AigGraph)
    (classes : List Class) (nodes : List Node) (count : ℕ) : Type 0 where
  pub grown : Extends old mid
  pub are_classes : All (IsClass f rows mid) classes
  pub outputs : (rules : List Rule) → AreByRules f old rules others →
      AreFirstOutputs f rows points rules definitions mid count nodes

pub output_added : (f : Dqbf) (rows : List (List Bool)) (points : PointBits) (definitions : List (Option Node))
    (others : List Node) (old mid new : AigGraph)
    (classes after : List Class) (nodes : List Node) (count : ℕ) (other node : Node)
    → OutputsSoFar f rows points definitions others old mid classes nodes count → Extends mid new →
    All (IsClass f rows new) after → other ≡ get_or others count (Constant false)
    → ((rules : List Rule) (y : Existential) → slice_get f.existentials count ≡ Some y → IsByRules f mid rules y other →
    IsFirstOutput f rows points rules new y (get_or definitions count None) node)
    → OutputsSoFar f rows points definitions others old new after (nodes ++ node ∷ []) (count + 1)
output_added f rows points definitions others old mid new classes after nodes count other node far grown are is
    candidate = record {
      grown = grown_twice old mid new far.grown grown;
      are_classes = are;
      outputs = λ rules by.
          let before = far.outputs rules by in
          let long = before.one_each in
          let more = length_push nodes node in
          record {
            one_each = more ∙ ap (λ n. n + 1) long;
            each = λ p y below at. elim (cases_lt p count) [
              | inl early ↦ subst (IsFirstOutput f rows points rules new y (get_or definitions p None))
                  (sym (get_or-append nodes (node ∷ []) (Constant false) p (omega arith)))
                  (first_output_stays mid new grown f rows points rules y (get_or definitions p None)
                  (get_or nodes p (Constant false)) (before.each p y early at))
              | inr late ↦ (
                  let here : p ≡ count = omega arith in
                  let at_count = subst (λ q. slice_get f.existentials q ≡ Some y) here at in
                  let own = subst (IsByRules f mid rules y) (sym is)
                  (rule_node_stays old mid far.grown f rules y (get_or others count (Constant false))
                  (by.each count y at_count)) in
                  let done = candidate rules y at_count own in
                  let last : get_or (nodes ++ node ∷ []) count (Constant false) ≡ node =
                  get_or_push nodes node (Constant false) count long in
                  subst (λ q. IsFirstOutput f rows points rules new y (get_or definitions q None)
                  (get_or (nodes ++ node ∷ []) q (Constant false))) (sym here)
                  (subst (IsFirstOutput f rows points rules new y (get_or definitions count None)) (sym last) done))
            ];
          };
    }

pub rule_nodes_are_nodes : (f : Dqbf) (g : AigGraph) (rules : List Rule) (nodes : List Node) →
    AreByRules f g rules nodes → All (IsNode g) nodes
rule_nodes_are_nodes f g rules nodes are k d below =
    let none : Existential = record { variable = 0; sees = [] } in
    let long = are.one_each in
    let is = (are.each k (get_or f.existentials k none) (slice_get-get_or f.existentials k none
    (omega arith))).is_node in
    subst (IsNode g) (get_or_default nodes k (Constant false) d below) is

pub first_outputs_are_nodes : (f : Dqbf) (rows : List (List Bool)) (points : PointBits) (rules : List Rule)
    (definitions : List (Option Node)) (g : AigGraph) (nodes : List Node)
    → AreFirstOutputs f rows points rules definitions g (length f.existentials) nodes → All (IsNode g) nodes
first_outputs_are_nodes f rows points rules definitions g nodes are k d below =
    let none : Existential = record { variable = 0; sees = [] } in
    let long = are.one_each in
    let within : k < length f.existentials = omega arith in
    let is = (are.each k (get_or f.existentials k none) within
    (slice_get-get_or f.existentials k none within)).is_node in
    subst (IsNode g) (get_or_default nodes k (Constant false) d below) is

module _ (f : Dqbf) (ranks : List ℕ) (lawful : IsLawful f) (rows : List (List Bool)) (points : PointBits)
    (rules : List Rule) (definitions : List (Option Node)) (g : AigGraph) (nodes : List Node)
    (are : AreOutputs f ranks rows points rules definitions g nodes) where
  abbrev IsOne : Existential → Type 0
  IsOne y = IsOutput f ranks rows points rules g nodes y (definition_of f definitions y) (output_node f nodes y)

  each_is : All IsOne f.existentials
  each_is k d below =
      let y = get_or f.existentials k d in
      let at = slice_get-get_or f.existentials k d below in
      subst (λ p. IsOutput f ranks rows points rules g nodes y (get_or definitions p None)
      (get_or nodes p (Constant false))) (sym (existential_at f lawful.prefix k y at)) (are.each k y at)

  pub read_declared : ReadDeclared f (outputs_of f g nodes)
  read_declared = All-weaker IsOne (λ y. All (Contains y.sees) (outputs_of f g nodes y).support)
      (λ y is. is.reads) f.existentials each_is

  pub agree_at_pairs : AgreeAtPairs f rows points (outputs_of f g nodes)
  agree_at_pairs = All-weaker IsOne (λ y. AgreesAtPairs f rows points y (outputs_of f g nodes y))
      (λ y is. is.at_pairs) f.existentials each_is

  pub follow_rules : FollowRules f rows rules definitions (outputs_of f g nodes)
  follow_rules = search (arith, All-weaker, each_is)

  module _ (m : Assignment) (same : All (λ y. m y.variable ≡ (outputs_of f g nodes y).value m) f.existentials) where
    have_values : (y : Existential) → HaveValues f ranks g nodes y m
    have_values y q z at shared =
        All-contains (λ e. m e.variable ≡ (outputs_of f g nodes e).value m) f.existentials z same
        (element_at f.existentials q z at)
        ∙ ap (λ p. (node_output f g (get_or nodes p (Constant false))).value m) (existential_at f lawful.prefix q z at)

    pub are_defined : All (λ y. (node : Node) → definition_of f definitions y ≡ Some node →
        m y.variable ≡ (defining_output f g node).value m) f.existentials
    are_defined k e below node is = same k e below ∙ (each_is k e below).defined node is m
        (have_values (get_or f.existentials k e))
