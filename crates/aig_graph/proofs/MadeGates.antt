-- What was made of the gates in a node's cone, from the first one up.
use Rattle.std.proofs.Common.{◌≡◌, ◌≢◌, ℕ, ◌+◌, ◌<◌, ◌≤◌, ◌==◌, false, cond, inl, inr, List, [], ◌∷◌, ◌++◌, length, get_or, slice_get, None, Some, sym, ◌∙◌, ap, subst, arith}
use Rattle.std.specs.List.{All, Contains}
use Rattle.std.specs.Ordering.{nat_cmp, is_eq}
use Rattle.std.specs.BTreeMap.{BTreeMap, get, is_at, Updates}
use Rattle.std.proofs.lemmas.Bool.{cases_lt, cases_eq, lt-ltb, le-ltb, ne_eqb}
use Rattle.std.proofs.lemmas.List.{get_or_default}
use Rattle.std.proofs.lemmas.Option.{slice_get-get_or, slice_get_within, get_or_from_slice_get}
use Rattle.std.specs.declared.cmp.Ordering.TheVariants.{Less, Equal, Greater}
use Rattle.list_laws.proofs.Options.{some_is}
use Rattle.aig_graph.specs.declared.nodes.Node.{Node}
use Rattle.aig_graph.specs.declared.nodes.Node.TheVariants.{Gate}
use Rattle.aig_graph.specs.declared.nodes.Sides.{Sides}
use Rattle.aig_graph.specs.Graph.{AigGraph, IsEarlierNode, IsNode, IsGraph, AreSides, gate_at}
use Rattle.aig_graph.specs.Made.{HasMore}
use Rattle.aig_graph.specs.Substituting.{IsPutIn}
use Rattle.aig_graph.specs.Putting.{IsAmongGates, AreConeGates, HasPutIn, IsSubstituted, AreSidesSubstituted}
use Rattle.aig_graph.proofs.Numbered.{sides_are, gate_there}
use Rattle.aig_graph.proofs.LargerGraphs.{extends, more_more, number_of}
use Rattle.aig_graph.proofs.GatheredCones.{gate_earlier}
use Rattle.aig_graph.proofs.PutInNodes.{put_stays}

pub record ArePutInFrom (old mid : AigGraph) (subs : List Node) (gates : List ℕ) (made : BTreeMap ℕ Node)
    (at : ℕ) : Type 0 where
  pub grown : HasMore old mid
  pub within : at ≤ length gates
  pub each : (k g : ℕ) → at ≤ k → slice_get gates k ≡ Some g → HasPutIn mid subs made g

gate_before : (more gates : List Sides) (g : ℕ) (s : Sides) → gate_at gates g ≡ Some s →
    gate_at (more ++ gates) g ≡ Some s
gate_before [] gates g s at = at
gate_before (x ∷ more) gates g s at =
    let later = gate_before more gates g s at in
    let below = number_of (more ++ gates) g s later in
    ap (λ b. cond b (Some x) (gate_at (more ++ gates) g)) (ne_eqb g (length (more ++ gates))
    (λ is. omega (arith, below, is))) ∙ later

gate_stays : (old new : AigGraph) (g : ℕ) (s : Sides) → HasMore old new → gate_at old.gates g ≡ Some s →
    gate_at new.gates g ≡ Some s
gate_stays old new g s more at = ap (λ gs. gate_at gs g) more.grown ∙ gate_before more.more old.gates g s at

module _ (old mid : AigGraph) (node : Node) (subs : List Node) (gates : List ℕ) (made : BTreeMap ℕ Node) (at g : ℕ)
    (lawful : IsGraph old) (cone : AreConeGates old node gates)
    (far : ArePutInFrom old mid subs gates made (at + 1)) (here : slice_get gates at ≡ Some g) where
  pub gate_within : g < length old.gates
  gate_within = search (arith, get_or_from_slice_get, slice_get_within)

  -- an earlier gate stands behind this one
  earlier_made : (h : ℕ) → Contains gates h → h < g → HasPutIn mid subs made h
  earlier_made h (j, below, is) less = far.each j h (elim (cases_lt at j) [
    | inl behind ↦ omega arith
    | inr before ↦ absurd (elim (cases_eq j at) [
      | inl same ↦ (let equal : h ≡ g = sym is ∙ ap (λ k. get_or gates k h) same
          ∙ get_or_from_slice_get gates at g h here in omega arith)
      | inr differ ↦ (
          let less_still = cone.descending j at g (omega arith) (slice_get_within gates at g here) in
          let first : get_or gates at g ≡ g = get_or_from_slice_get gates at g g here in
          let second : get_or gates j g ≡ h = get_or_default gates j g h below ∙ is in
          omega arith)
    ])
  ]) (slice_get-get_or gates j h below ∙ ap Some is)

  pub sides_ready : AreSidesSubstituted mid subs made g
  sides_ready s there = (ready s.left sides.left closed.0, ready s.right sides.right closed.1) where
    own : (t : Sides) × (gate_at old.gates g ≡ Some t)
    own = gate_there old.gates g gate_within

    same : own.0 ≡ s
    same = some_is (sym (gate_stays old mid g own.0 far.grown own.1) ∙ there)

    at_old : gate_at old.gates g ≡ Some s
    at_old = own.1 ∙ ap Some same

    sides : AreSides old.inputs g s
    sides = sides_are old.inputs old.gates g s lawful.gates at_old

    closed : IsAmongGates gates s.left × IsAmongGates gates s.right
    closed = cone.closed g s (at, slice_get_within gates at g here, get_or_from_slice_get gates at g g here) at_old

    ready : (n : Node) → IsEarlierNode old.inputs g n → IsAmongGates gates n → IsSubstituted mid subs made n
    ready n earlier among h is = earlier_made h (among h is) (gate_earlier old.inputs g h n earlier is)

  pub put_in_more : (new : AigGraph) (n : Node) (after : BTreeMap ℕ Node) → All (IsNode old) subs → HasMore mid new →
      IsPutIn new new (Gate g false) subs n → Updates nat_cmp made after g (Some n)
      → ArePutInFrom old new subs gates after at
  put_in_more new n after subs_are grown put updates = record {
    grown = more_more old mid new far.grown grown;
    within = let w = far.within in omega arith;
    each = λ k h past there. elim (cases_lt at k) [
      | inl behind ↦ stays k h behind there
      | inr same ↦ (let is : k ≡ at = omega arith in let equal : g ≡ h =
          some_is (sym here ∙ ap (slice_get gates) (sym is) ∙ there) in subst (HasPutIn new subs after) equal made_now)
    ];
  } where
    made_now : HasPutIn new subs after g
    made_now = record { node = n; found = updates.1; put_in = put }

    differ : (h : ℕ) → g ≢ h → is_at (nat_cmp g) h ≡ false
    differ h other = elim (cases_lt g h) [
      | inl less ↦ ap (λ b. is_eq (cond b Less (cond (g == h) Equal Greater))) (lt-ltb g h less)
      | inr most ↦ ap (λ b. is_eq (cond b Less (cond (g == h) Equal Greater))) (le-ltb g h most) ∙ ap
          (λ b. is_eq (cond b Equal Greater)) (ne_eqb g h other)
    ]

    apart : (k h : ℕ) → at < k → slice_get gates k ≡ Some h → g ≢ h
    apart k h behind there equal =
        let less = cone.descending at k g behind (slice_get_within gates k h there) in
        let first : get_or gates at g ≡ g = get_or_from_slice_get gates at g g here in
        let second : get_or gates k g ≡ h = get_or_from_slice_get gates k h g there in
        omega arith

    stays : (k h : ℕ) → at < k → slice_get gates k ≡ Some h → HasPutIn new subs after h
    stays k h behind there =
        let before = far.each k h (omega arith) there in
        let e = extends mid new grown in
        let all : All (IsNode mid) subs = λ i d below. (extends old mid far.grown).nodes (get_or subs i d)
        (subs_are i d below) in
        let is : IsNode mid (Gate h false) = (extends old mid far.grown).nodes (Gate h false)
        (subst (λ q. q < length old.gates) (get_or_from_slice_get gates k h h there)
        (cone.within k h (slice_get_within gates k h there))) in
        record {
          node = before.node;
          found = updates.2 h (differ h (apart k h behind there)) ∙ before.found;
          put_in =
              put_stays mid new e subs all (Gate h false) before.node is before.put_in;
        }

-- all are made
pub node_ready : (old mid : AigGraph) (node : Node) (subs : List Node) (gates : List ℕ) (made : BTreeMap ℕ Node) →
    AreConeGates old node gates → ArePutInFrom old mid subs gates made 0 → IsSubstituted mid subs made node
node_ready old mid node subs gates made cone far g is = search (arith, slice_get-get_or)

-- what is found was made of the gate
pub found_made : (graph : AigGraph) (subs : List Node) (made : BTreeMap ℕ Node) (g : ℕ) (n : Node) →
    HasPutIn graph subs made g → Some n ≡ get nat_cmp made g → IsPutIn graph graph (Gate g false) subs n
found_made graph subs made g n has found = search (arith, some_is)

pub none_found : (graph : AigGraph) (subs : List Node) (made : BTreeMap ℕ Node) (g : ℕ) → HasPutIn graph subs made g →
    None ≡ get nat_cmp made g → ⊥
none_found graph subs made g has none = let e : None ≡ Some has.node = none ∙ has.found in cc
