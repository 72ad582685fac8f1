-- Definitions are put in one after another, in the order of the existentials.
use Rattle.std.proofs.Common.{◌≡◌, ◌≢◌, ℕ, zero, suc, ◌+◌, ◌<◌, ◌≤◌, Bool, false, List, [], ◌∷◌, ◌++◌, length, take, get_or, slice_get, slice_index, Option, None, Some, refl, sym, ◌∙◌, ap, subst, inl, inr, ◌⊎◌, arith, get_or-take}
use Rattle.std.specs.List.{All, Contains}
use Rattle.std.proofs.lemmas.Bool.{cases_eq}
use Rattle.std.proofs.lemmas.List.{length-set, length-take, take_more, take_all, get_or_default, get_or-set_same, get_or-set_other}
use Rattle.std.proofs.lemmas.List.Elements.{Contains-append_cases}
use Rattle.std.proofs.lemmas.Option.{slice_get_within, get_or_from_slice_get, slice_get-get_or}
use Rattle.list_laws.proofs.Members.{element_at}
use Rattle.dq_lits.specs.Literal.{Assignment}
use Rattle.dq_lits.specs.Formula.{Existential, Dqbf, existential_of}
use Rattle.dq_formula.specs.Prefix.{IsLawful}
use Rattle.dq_formula.specs.declared.rules.Rule.{Rule}
use Rattle.aig_graph.specs.Graph.{AigGraph, IsNode}
use Rattle.aig_graph.specs.Made.{Extends}
use Rattle.aig_graph.specs.Outputs.{node_output}
use Rattle.aig_graph.specs.declared.nodes.Node.{Node}
use Rattle.aig_graph.specs.declared.nodes.Node.TheVariants.{Constant}
use Rattle.aig_graph.proofs.LargerGraphs.{grown_twice}
use Rattle.definition_order.proofs.Declared.{named_at}
use Rattle.defining_nodes.specs.Definitions.{input_variable, defining_output, IsDefinition}
use Rattle.definition_order.specs.Order.{ComesBefore, IsShared, AreInOrder}
use Rattle.expansion.specs.Table.{PointBits, ArePoints}
use Rattle.candidate_functions.specs.Candidates.{AreDefinitions}
use Rattle.candidate_functions.specs.Pairs.{AreFirstOutputs}
use Rattle.candidate_functions.specs.Settling.{HasPutAt, IsPutAt, HaveValues, IsOutput, IsSettled, AreSettled, AreOutputs}
use Rattle.candidate_functions.proofs.AllOutputs.{definition_there}
use Rattle.candidate_functions.proofs.DefinedPoints.{value_put_in, made_reads, made_at_pairs}
use Rattle.candidate_functions.proofs.LargerGraphs.{definitions_stay, support_stays}

-- how far the order was gone through
pub record AreSettledSoFar (f : Dqbf) (ranks : List ℕ) (definitions : List (Option Node)) (old mid : AigGraph)
    (before nodes : List Node) (done : List ℕ) : Type 0 where
  pub grown : Extends old mid
  pub one_each : length nodes ≡ length f.existentials
  pub are_nodes : All (IsNode mid) nodes
  pub outputs : (rows : List (List Bool)) (points : PointBits) (rules : List Rule) → ArePoints f rows points →
      AreFirstOutputs f rows points rules definitions old (length f.existentials) before
      → AreSettled f ranks rows points rules definitions mid done nodes

-- what was gone through has with each place those that come before it
pub record IsClosed (f : Dqbf) (ranks : List ℕ) (done : List ℕ) : Type 0 where
  pub earlier : (p q : ℕ) (y z : Existential) → Contains done p → slice_get f.existentials p ≡ Some y →
      slice_get f.existentials q ≡ Some z → ComesBefore f ranks z y → Contains done q

first_closed : (f : Dqbf) (ranks : List ℕ) (order : List ℕ) (at : ℕ) → at ≤ length order → AreInOrder f ranks order →
    IsClosed f ranks (take at order)
first_closed f ranks order at within are = search (arith, length-take, slice_get-get_or, get_or-take)

not_done : (f : Dqbf) (ranks : List ℕ) (order : List ℕ) (at q : ℕ) → AreInOrder f ranks order →
    slice_get order at ≡ Some q → Contains (take at order) q → ⊥
not_done f ranks order at q are here (j, below, is) =
    search (
      arith,
      (length-take at order),
      (slice_get_within order at q here),
      (get_or-take at order j q),
      (get_or_from_slice_get order at q q here),
    )

module _ (f : Dqbf) (ranks : List ℕ) (lawful : IsLawful f) (definitions : List (Option Node)) (g h : AigGraph)
    (nodes after : List Node) (done : List ℕ) (q : ℕ) (grown : Extends g h)
    (are : AreDefinitions f ranks g definitions) (inputs : g.inputs ≡ length f.universals + length f.existentials)
    (long : length nodes ≡ length f.existentials) (nodes_are : All (IsNode g) nodes)
    (closed : IsClosed f ranks done) (new_place : Contains done q → ⊥)
    (put : IsPutAt g h (get_or definitions q None) q nodes after) where
  abbrev before_at : ℕ → Node
  before_at p = get_or nodes p (Constant false)

  abbrev after_at : ℕ → Node
  after_at p = get_or after p (Constant false)

  abbrev definition : ℕ → Option Node
  definition p = get_or definitions p None

  has_node : (p : ℕ) (y : Existential) → slice_get f.existentials p ≡ Some y → IsNode g (before_at p)
  has_node p y at = nodes_are p (Constant false) (let within = slice_get_within f.existentials p y at in omega arith)

  -- what is settled stays at its place
  stays_at : (p : ℕ) → IsSettled definitions done p → after_at p ≡ before_at p
  stays_at p settled = by (definition q) refl where
    by : (o : Option Node) → definition q ≡ o → after_at p ≡ before_at p
    by None is = ap (λ ns. get_or ns p (Constant false)) (put.none is)
    by (Some d) is =
        let there = put.some d is in
        ap (λ ns. get_or ns p (Constant false)) there.after_is ∙ get_or-set_other nodes q p there.node (Constant false)
        (λ same. elim settled [
          | inl none ↦ (let e : None ≡ Some d = sym none ∙ ap definition same ∙ is in cc)
          | inr among ↦ new_place (subst (Contains done) same among)
        ])

  value_stays : (p : ℕ) (y : Existential) → slice_get f.existentials p ≡ Some y → IsSettled definitions done p →
      (m : Assignment)
      → (node_output f h (after_at p)).value m ≡ (node_output f g (before_at p)).value m
  value_stays p y at settled m = ap (λ n. (node_output f h n).value m) (stays_at p settled) ∙ grown.values (before_at p)
      (has_node p y at) (λ i. m (slice_index f.universals i))

  shared_settled : (p r : ℕ) (y z : Existential) → Contains done p → slice_get f.existentials p ≡ Some y →
      slice_get f.existentials r ≡ Some z → IsShared f ranks y z → IsSettled definitions done r
  shared_settled p r y z among own other shared = inr (closed.earlier p r y z among own other shared.before)

  definition_value : (p : ℕ) (y : Existential) (d : Node) → slice_get f.existentials p ≡ Some y →
      definition p ≡ Some d → (m : Assignment)
      → (defining_output f h d).value m ≡ (defining_output f g d).value m
  definition_value p y d at is m = grown.values d (definition_there f ranks lawful g definitions p y d are at
      is).is_node (λ i. m (input_variable f i))

  module _ (rows : List (List Bool)) (points : PointBits) (rules : List Rule) (model : ArePoints f rows points)
      (before : AreSettled f ranks rows points rules definitions g done nodes) where
    kept : (p : ℕ) (y : Existential) → slice_get f.existentials p ≡ Some y → IsSettled definitions done p →
        IsOutput f ranks rows points rules h after y (definition p) (after_at p)
    kept p y at settled = record {
      reads = subst (λ n. All (Contains y.sees) (node_output f h n).support) (sym (stays_at p settled))
          (support_stays g h grown f (before_at p) (has_node p y at) (Contains y.sees) o.reads);
      at_pairs = λ k row m there sees. value_stays p y at settled m ∙ o.at_pairs k row m there sees;
      by_rules = λ none m bit away first. value_stays p y at settled m ∙ o.by_rules none m bit away first;
      defined = λ d is m have. value_stays p y at settled m ∙ o.defined d is m (values_before d is m have) ∙ sym
          (definition_value p y d at is m);
    } where
      o : IsOutput f ranks rows points rules g nodes y (definition p) (before_at p)
      o = before.each p y at settled

      is_done : (d : Node) → definition p ≡ Some d → Contains done p
      is_done d is = search arith

      values_before : (d : Node) → definition p ≡ Some d → (m : Assignment) → HaveValues f ranks h after y m →
          HaveValues f ranks g nodes y m
      values_before d is m have r z there shared = have r z there shared ∙ value_stays r z there
          (shared_settled p r y z (is_done d is) at there shared) m

    -- the definition at the place, if any, was put in now
    put_now : (y : Existential) (d : Node) → slice_get f.existentials q ≡ Some y → definition q ≡ Some d
        → ((r : ℕ) (z : Existential) → slice_get f.existentials r ≡ Some z → IsShared f ranks y z →
        IsSettled definitions done r)
        → IsOutput f ranks rows points rules h after y (definition q) (after_at q)
    put_now y d at is settled = record {
      reads = subst (λ n. All (Contains y.sees) (node_output f h n).support) (sym here)
          (made_reads f ranks lawful y own g d nodes def inputs long h there.node there.put_in
          (λ r z at_r shared. (output r z at_r shared).reads));
      at_pairs = λ k row m at_k sees. ap (λ n. (node_output f h n).value m) here
          ∙ made_at_pairs f ranks lawful y own g d nodes def inputs long h there.node there.put_in
          (λ r z at_r shared. (output r z at_r shared).reads) rows points model (element_at f.existentials q y at)
          (λ r z at_r shared. (output r z at_r shared).at_pairs) k row m at_k sees;
      by_rules = λ none. absurd (let e : None ≡ Some d = sym none ∙ is in cc);
      defined = λ e is_e m have.
          let same : d ≡ e = (let both : Some d ≡ Some e = sym is ∙ is_e in cc) in
          ap (λ n. (node_output f h n).value m) here ∙ there.put_in.value (λ i. m (slice_index f.universals i))
          ∙ value_put_in f ranks lawful y own g d nodes def inputs long m m (λ x seen. refl)
          (λ r z at_r shared. have r z at_r shared ∙ value_stays r z at_r (settled r z at_r shared) m)
          ∙ sym (definition_value q y d at is m) ∙ ap (λ n. (defining_output f h n).value m) same;
    } where
      there : HasPutAt g h d q nodes after
      there = put.some d is

      own : existential_of f y.variable ≡ Some y
      own = named_at f lawful q y at

      def : IsDefinition f ranks g y d
      def = definition_there f ranks lawful g definitions q y d are at is

      here : after_at q ≡ there.node
      here = ap (λ ns. get_or ns q (Constant false)) there.after_is ∙ get_or-set_same nodes q there.node
          (Constant false) (let within = slice_get_within f.existentials q y at in omega arith)

      output : (r : ℕ) (z : Existential) → slice_get f.existentials r ≡ Some z → IsShared f ranks y z →
          IsOutput f ranks rows points rules g nodes z (definition r) (before_at r)
      output r z at_r shared = before.each r z at_r (settled r z at_r shared)

    pub one_settled : ((r : ℕ) (y z : Existential) → slice_get f.existentials q ≡ Some y →
        slice_get f.existentials r ≡ Some z → IsShared f ranks y z → IsSettled definitions done r)
        → AreSettled f ranks rows points rules definitions h (done ++ q ∷ []) after
    one_settled settled = record { each = each } where
      now : (y : Existential) → slice_get f.existentials q ≡ Some y → (o : Option Node) → definition q ≡ o →
          IsOutput f ranks rows points rules h after y (definition q) (after_at q)
      now y at None is = kept q y at (inl is)
      now y at (Some d) is = put_now y d at is (λ r z at_r shared. settled r y z at at_r shared)

      each : (p : ℕ) (y : Existential) → slice_get f.existentials p ≡ Some y →
          IsSettled definitions (done ++ q ∷ []) p → IsOutput f ranks rows points rules h after y (definition p)
          (after_at p)
      each p y at (inl none) = kept p y at (inl none)
      each p y at (inr among) = elim (Contains-append_cases done (q ∷ []) p among) [
        | inl earlier ↦ kept p y at (inr earlier)
        | inr last ↦ (
            let same : q ≡ p = only p last in
            subst (λ r. IsOutput f ranks rows points rules h after y (definition r) (after_at r)) same
            (now y (subst (λ r. slice_get f.existentials r ≡ Some y) (sym same) at) (definition q) refl))
      ] where
        only : (p : ℕ) → Contains (q ∷ []) p → q ≡ p
        only p (zero, b, e) = e
        only p (suc k, b, e) = absurd (omega arith)

  after_long : length after ≡ length nodes
  after_long = by (definition q) refl where
    by : (o : Option Node) → definition q ≡ o → length after ≡ length nodes
    by None is = ap length (put.none is)
    by (Some d) is = (let there = put.some d is in ap length there.after_is ∙ length-set nodes q there.node)

  after_nodes : q < length nodes → All (IsNode h) after
  after_nodes below k e inside = subst (IsNode h) (get_or_default after k (Constant false) e inside)
      (by (definition q) refl (cases_eq k q)) where
        stays : (k < length nodes) → IsNode h (before_at k)
        stays small = grown.nodes (before_at k) (nodes_are k (Constant false) small)

        small : k < length nodes
        small = let l = after_long in omega arith

        by : (o : Option Node) → definition q ≡ o → (k ≡ q) ⊎ (k ≢ q) → IsNode h (after_at k)
        by None is c = subst (IsNode h) (sym (ap (λ ns. get_or ns k (Constant false)) (put.none is))) (stays small)
        by (Some d) is (inl same) =
            let there = put.some d is in
            subst (λ j. IsNode h (after_at j)) (sym same)
            (subst (IsNode h) (sym (ap (λ ns. get_or ns q (Constant false)) there.after_is
            ∙ get_or-set_same nodes q there.node (Constant false) below)) there.put_in.is_node)
        by (Some d) is (inr other) =
            let there = put.some d is in
            subst (IsNode h) (sym (ap (λ ns. get_or ns k (Constant false)) there.after_is
            ∙ get_or-set_other nodes q k there.node (Constant false) other)) (stays small)

pub order_within : (f : Dqbf) (ranks : List ℕ) (order : List ℕ) (at q : ℕ) → AreInOrder f ranks order →
    slice_get order at ≡ Some q → q < length f.existentials
order_within f ranks order at q are here = (are.each q).0 (element_at order at q here)

-- one place more of the order
pub settled_more : (f : Dqbf) (ranks : List ℕ) → IsLawful f →
    (definitions : List (Option Node)) (old mid new : AigGraph) (before nodes after : List Node) (order : List ℕ)
    (at q : ℕ)
    → AreDefinitions f ranks old definitions → old.inputs ≡ length f.universals + length f.existentials →
    AreInOrder f ranks order → slice_get order at ≡ Some q
    → AreSettledSoFar f ranks definitions old mid before nodes (take at order) → Extends mid new →
    IsPutAt mid new (get_or definitions q None) q nodes after
    → AreSettledSoFar f ranks definitions old new before after (take (at + 1) order)
settled_more f ranks lawful definitions old mid new before nodes after order at q are inputs in_order here far grown put
    = record {
      grown = grown_twice old mid new far.grown grown;
      one_each = after_long f ranks lawful definitions mid new nodes after
          (take at order) q grown are_mid inputs_mid far.one_each far.are_nodes closed fresh put ∙ far.one_each;
      are_nodes = after_nodes f ranks lawful definitions mid new nodes after
          (take at order) q grown are_mid inputs_mid far.one_each far.are_nodes closed fresh put
          (let w = order_within f ranks order at q in_order here in let l = far.one_each in omega arith);
      outputs = λ rows points rules model first.
          subst (λ ps. AreSettled f ranks rows points rules definitions new ps after) (sym longer)
          (one_settled f ranks lawful definitions mid new nodes after
          (take at order) q grown are_mid inputs_mid far.one_each far.are_nodes closed fresh put rows points rules model
          (far.outputs rows points rules model first)
          (λ r y z own other shared. inr (in_order.earlier at q r y z here own other shared.before)));
    } where
      within : at < length order
      within = slice_get_within order at q here

      longer : take (at + 1) order ≡ take at order ++ q ∷ []
      longer = take_more order at q within ∙ ap (λ p. take at order ++ p ∷ []) (get_or_from_slice_get order at q q here)

      are_mid : AreDefinitions f ranks mid definitions
      are_mid = definitions_stay old mid far.grown f ranks definitions are

      inputs_mid : mid.inputs ≡ length f.universals + length f.existentials
      inputs_mid = far.grown.inputs ∙ inputs

      closed : IsClosed f ranks (take at order)
      closed = first_closed f ranks order at (let w = within in omega arith) in_order

      fresh : Contains (take at order) q → ⊥
      fresh = not_done f ranks order at q in_order here

-- what is handed to the call at a place of the order
pub placed_at : (order : List ℕ) (at p : ℕ) → at < length order → p ≡ get_or order at p → slice_get order at ≡ Some p
placed_at order at p below is = slice_get-get_or order at p below ∙ ap Some (sym is)

pub definition_node : (f : Dqbf) (ranks : List ℕ) → IsLawful f →
    (definitions : List (Option Node)) (old mid : AigGraph) (order : List ℕ) (at q : ℕ) →
    AreDefinitions f ranks old definitions → Extends old mid → AreInOrder f ranks order
    → slice_get order at ≡ Some q → (d : Node) → get_or definitions q None ≡ Some d → IsNode mid d
definition_node f ranks lawful definitions old mid order at q are grown in_order here d is =
    let nobody : Existential = record { variable = 0; sees = [] } in
    let own = slice_get-get_or f.existentials q nobody (order_within f ranks order at q in_order here) in
    (definition_there f ranks lawful mid definitions q (get_or f.existentials q nobody) d
    (definitions_stay old mid grown f ranks definitions are) own is).is_node

pub all_settled : (f : Dqbf) (ranks : List ℕ) (definitions : List (Option Node)) (old mid : AigGraph)
    (before nodes : List Node) (order : List ℕ) (at : ℕ) → AreInOrder f ranks order → length order ≤ at
    → AreSettledSoFar f ranks definitions old mid before nodes (take at order) →
    (rows : List (List Bool)) (points : PointBits) (rules : List Rule) → ArePoints f rows points
    → AreFirstOutputs f rows points rules definitions old (length f.existentials) before →
    AreOutputs f ranks rows points rules definitions mid nodes
all_settled f ranks definitions old mid before nodes order at in_order past far rows points rules model first = record {
  one_each = far.one_each;
  are_nodes = far.are_nodes;
  each = λ p y here. (far.outputs rows points rules model first).each p y here
      (inr (subst (λ ps. Contains ps p) (sym (take_all at order past))
      ((in_order.each p).1 (slice_get_within f.existentials p y here))));
}
