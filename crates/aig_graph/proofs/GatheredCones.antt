-- The gates in a node's cone, gathered from the last one down.
use Rattle.std.proofs.Common.{◌≡◌, ℕ, zero, suc, ◌-◌, ◌<◌, false, inl, inr, ◌⊎◌, List, [], ◌∷◌, ◌++◌, length, get_or, Some, refl, sym, ◌∙◌, ap, subst, arith}
use Rattle.std.specs.Prelude.{◌↔◌}
use Rattle.std.specs.List.{All, AllPairs, Contains}
use Rattle.std.specs.BTreeSet.{BTreeSet, contains}
use Rattle.std.specs.Ordering.{nat_cmp}
use Rattle.std.proofs.lemmas.Bool.{false≢true, cases_lt}
use Rattle.std.proofs.lemmas.List.{get_or_push, get_or_past, length_push}
use Rattle.std.proofs.lemmas.List.Elements.{All-push, Contains-push, Contains-append_left, Contains-append_cases, Contains-get_or}
use Rattle.std.proofs.lemmas.List.Quantifiers.{all_pairs_push}
use Rattle.list_laws.proofs.Options.{some_is}
use Rattle.aig_graph.specs.declared.nodes.Node.{Node}
use Rattle.aig_graph.specs.declared.nodes.Node.TheVariants.{Constant, Input, Gate}
use Rattle.aig_graph.specs.declared.nodes.Sides.{Sides}
use Rattle.aig_graph.specs.Graph.{AigGraph, IsEarlierNode, AreSides, gate_at}
use Rattle.aig_graph.specs.Putting.{Has, gate_of, IsTakenLast, IsAmongGates, AreConeGates}

-- if the node is a gate, it is among those to come or those that were taken
abbrev pub IsMet : BTreeSet ℕ → List ℕ → Node → Type 0
IsMet pending gates node = (g : ℕ) → gate_of node ≡ Some g → Has pending g ⊎ Contains gates g

pub record AreConeSoFar (graph : AigGraph) (node : Node) (pending : BTreeSet ℕ) (gates : List ℕ) : Type 0 where
  pub within : All (λ g. g < length graph.gates) gates
  pub pending_within : (q : ℕ) → Has pending q → q < length graph.gates
  pub descending : AllPairs (λ g h. h < g) gates
  pub later : (q g : ℕ) → Has pending q → Contains gates g → q < g
  pub root : IsMet pending gates node
  pub closed : (g : ℕ) (sides : Sides) → Contains gates g → gate_at graph.gates g ≡ Some sides →
      IsMet pending gates sides.left × IsMet pending gates sides.right

-- the last gate that was taken; before that the number of gates
abbrev pub lowest : List ℕ → ℕ → ℕ
lowest gates count = get_or gates (length gates - 1) count

abbrev pub IsAdded : Node → BTreeSet ℕ → BTreeSet ℕ → Type 0
IsAdded node old new = (q : ℕ) → (Has new q ↔ (Has old q ⊎ (gate_of node ≡ Some q)))

pub gate_earlier : (inputs count g : ℕ) (node : Node) → IsEarlierNode inputs count node → gate_of node ≡ Some g →
    g < count
gate_earlier inputs count g (Constant b) earlier is = cc
gate_earlier inputs count g (Input i negated) earlier is = cc
gate_earlier inputs count g (Gate h negated) earlier is = let same = some_is is in omega (arith, same, earlier)

module _ (graph : AigGraph) (node : Node) (old taken more new : BTreeSet ℕ) (gates : List ℕ) (g : ℕ) (s : Sides)
    (before : AreConeSoFar graph node old gates) (last : IsTakenLast old taken g)
    (at : gate_at graph.gates g ≡ Some s) (sides : AreSides graph.inputs g s) (first : IsAdded s.left taken more)
    (second : IsAdded s.right more new) where
  abbrev longer : List ℕ
  longer = gates ++ g ∷ []

  only : (x : ℕ) → Contains (g ∷ []) x → g ≡ x
  only x (zero, b, e) = e
  only x (suc k, b, e) = absurd (omega arith)

  -- what is to come is earlier
  below : (q : ℕ) → Has new q → q < g
  below q has = elim ((second q).0 has) [
    | inl in_more ↦ elim ((first q).0 in_more) [
      | inl in_taken ↦ ((last.rest q).0 in_taken).1
      | inr left ↦ gate_earlier graph.inputs g q s.left sides.left left
    ]
    | inr right ↦ gate_earlier graph.inputs g q s.right sides.right right
  ]

  own_below : g < length graph.gates
  own_below = before.pending_within g last.member

  met : (n : Node) → IsMet old gates n → IsMet new longer n
  met n is h own = elim (is h own) [
    | inl has ↦ elim (last.others h has) [
      | inl same ↦ inr (subst (Contains longer) (sym same) (Contains-push gates g))
      | inr still ↦ inl ((second h).1 (inl ((first h).1 (inl still))))
    ]
    | inr among ↦ inr (Contains-append_left gates (g ∷ []) h among)
  ]

  pub cone_goes_on : AreConeSoFar graph node new longer
  cone_goes_on = record {
    within = All-push (λ h. h < length graph.gates) gates g before.within own_below;
    pending_within = λ q has. (let b = below q has in let o = own_below in omega (arith, b, o));
    descending = all_pairs_push (λ h k. k < h) gates g before.descending
        (λ k d within. before.later g (get_or gates k d) last.member (Contains-get_or gates k d within));
    later = λ q h has among. elim (Contains-append_cases gates (g ∷ []) h among) [
      | inl earlier ↦ (let b = below q has in let l = before.later g h last.member earlier in omega (arith, b, l))
      | inr here ↦ subst (λ k. q < k) (only h here) (below q has)
    ];
    root = met node before.root;
    closed = λ h t among there. elim (Contains-append_cases gates (g ∷ []) h among) [
      | inl earlier ↦ (let c = before.closed h t earlier there in (met t.left c.0, met t.right c.1))
      | inr here ↦ (
          let same : s ≡ t = some_is (sym at ∙ ap (gate_at graph.gates) (only h here) ∙ there) in (
            (λ k own. inl ((second k).1 (inl ((first k).1 (inr (ap (λ (x : Sides). gate_of x.left) same ∙ own)))))),
            (λ k own. inl ((second k).1 (inr (ap (λ (x : Sides). gate_of x.right) same ∙ own)))),
          ))
    ];
  }

  pub goes_down : lowest longer (length graph.gates) < lowest gates (length graph.gates)
  goes_down =
      let count = length graph.gates in
      let long = length_push gates g in
      let last_place : length longer - 1 ≡ length gates = omega arith in
      let here : lowest longer count ≡ g = ap (λ k. get_or longer k count) last_place ∙ get_or_push gates g count
      (length gates) refl in
      subst (λ k. k < lowest gates count) (sym here) (elim (cases_lt 0 (length gates)) [
        | inl some ↦ before.later g (lowest gates count) last.member
            (Contains-get_or gates (length gates - 1) count (omega arith))
        | inr none ↦ subst (λ k. g < k) (sym (get_or_past gates (length gates - 1) count (omega arith))) own_below
      ])

pub cone_gathered : (graph : AigGraph) (node : Node) (pending : BTreeSet ℕ) (gates : List ℕ) →
    AreConeSoFar graph node pending gates → ((q : ℕ) → contains nat_cmp pending q ≡ false) →
    AreConeGates graph node gates
cone_gathered graph node pending gates far none = record {
  within = far.within;
  descending = far.descending;
  root = all node far.root;
  closed = λ g sides among at. (let c = far.closed g sides among at in (all sides.left c.0, all sides.right c.1));
} where
  all : (n : Node) → IsMet pending gates n → IsAmongGates gates n
  all n met g own = elim (met g own) [ inl has ↦ absurd (false≢true (sym (none g) ∙ has)) | inr among ↦ among ]
