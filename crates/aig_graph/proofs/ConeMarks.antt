-- Marks of the cones of nodes.
use Rattle.std.proofs.Common.{◌≡◌, ◌≢◌, ℕ, zero, suc, ◌+◌, ◌≤◌, ◌<◌, ◌==◌, Bool, true, false, inl, inr, ◌⊎◌, List, [], ◌∷◌, ◌++◌, length, take, get_or, Some, sym, ◌∙◌, ap, subst, arith}
use Rattle.std.specs.Prelude.{◌↔◌}
use Rattle.std.specs.List.{Contains}
use Rattle.std.proofs.lemmas.Bool.{false≢true, cases_Bool, eqb-true, eq-eqb}
use Rattle.std.proofs.lemmas.List.{take_more}
use Rattle.std.proofs.lemmas.List.Elements.{Contains-append_left, Contains-push, Contains-append_cases}
use Rattle.list_laws.proofs.Options.{some_is}
use Rattle.dq_lits.specs.Row.{bit_of}
use Rattle.aig_graph.specs.declared.nodes.Node.{Node}
use Rattle.aig_graph.specs.declared.nodes.Node.TheVariants.{Constant, Input, Gate}
use Rattle.aig_graph.specs.declared.nodes.Sides.{Sides}
use Rattle.aig_graph.specs.Graph.{AigGraph, IsEarlierNode, IsGraph, AreSides, gate_at, place_of}
use Rattle.aig_graph.specs.Marking.{IsInCone, root, left, right, AreRoots, HandsOn}
use Rattle.aig_graph.proofs.Numbered.{gate_there, sides_are}
use Rattle.aig_graph.proofs.LargerGraphs.{number_of}

abbrev IsSidePlace : AigGraph → Sides → ℕ → Type 0
IsSidePlace graph s p = (place_of graph.inputs s.left ≡ Some p) ⊎ (place_of graph.inputs s.right ≡ Some p)

-- the first gates have still to hand on their marks
pub record AreCones (graph : AigGraph) (nodes : List Node) (old marks : List Bool) (count : ℕ) : Type 0 where
  pub sound : (p : ℕ) → bit_of marks p ≡ true → IsInCone graph nodes p
  pub roots : (p : ℕ) → AreRoots graph nodes p → bit_of marks p ≡ true
  pub closed : (g : ℕ) (s : Sides) → count ≤ g → gate_at graph.gates g ≡ Some s →
      bit_of marks (graph.inputs + g) ≡ true → (p : ℕ) →
      (place_of graph.inputs s.left ≡ Some p) ⊎ (place_of graph.inputs s.right ≡ Some p) → bit_of marks p ≡ true
  pub within : count ≤ length graph.gates
  pub same_length : length marks ≡ length old

place_below : (inputs g p : ℕ) (n : Node) → IsEarlierNode inputs g n → place_of inputs n ≡ Some p → p < inputs + g
place_below inputs g p (Constant b) earlier is = cc
place_below inputs g p (Input i negated) earlier is = let e = some_is is in omega (arith, e, earlier)
place_below inputs g p (Gate h negated) earlier is = let e = some_is is in omega (arith, e, earlier)

side_below : (graph : AigGraph) (g p : ℕ) (s : Sides) → AreSides graph.inputs g s → IsSidePlace graph s p →
    p < graph.inputs + g
side_below graph g p s sides (inl is) = place_below graph.inputs g p s.left sides.left is
side_below graph g p s sides (inr is) = place_below graph.inputs g p s.right sides.right is

pub cones_go_on : (graph : AigGraph) (nodes : List Node) (old marks more : List Bool) (g : ℕ) → IsGraph graph →
    AreCones graph nodes old marks (g + 1) → HandsOn graph g marks more → length more ≡ length marks →
    AreCones graph nodes old more g
cones_go_on graph nodes old marks more g lawful before hands long = record {
  sound = λ p h. sound p ((on p).0 h);
  roots = λ p r. (on p).1 (inl (before.roots p r));
  closed = λ h t most at marked p side. closed h t at marked p side (cases h most);
  within = let w = before.within in omega (arith, w);
  same_length = long ∙ before.same_length;
} where
  there : (s : Sides) × (gate_at graph.gates g ≡ Some s)
  there = let w = before.within in gate_there graph.gates g (omega (arith, w))

  on : (p : ℕ) → ((bit_of more p ≡ true) ↔ ((bit_of marks p ≡ true) ⊎
      ((bit_of marks (graph.inputs + g) ≡ true) × IsSidePlace graph there.0 p)))
  on = hands there.0 there.1

  sides : AreSides graph.inputs g there.0
  sides = sides_are graph.inputs graph.gates g there.0 lawful.gates there.1

  sound : (p : ℕ) → (bit_of marks p ≡ true) ⊎ ((bit_of marks (graph.inputs + g) ≡ true) × IsSidePlace graph there.0 p) →
      IsInCone graph nodes p
  sound p (inl h) = before.sound p h
  sound p (inr h) = elim h.1 [
    | inl is ↦ left g p there.0 (before.sound (graph.inputs + g) h.0) there.1 is
    | inr is ↦ right g p there.0 (before.sound (graph.inputs + g) h.0) there.1 is
  ]

  was_marked : (h : ℕ) → g ≤ h → bit_of more (graph.inputs + h) ≡ true → bit_of marks (graph.inputs + h) ≡ true
  was_marked h most marked = elim ((on (graph.inputs + h)).0 marked) [
    | inl was ↦ was
    | inr side ↦ (let below = side_below graph g (graph.inputs + h) there.0 sides side.1 in
        absurd (omega (arith, below, most)))
  ]

  cases : (h : ℕ) → g ≤ h → (g ≡ h) ⊎ (g + 1 ≤ h)
  cases h most = elim (cases_Bool (g == h)) [
    | inl e ↦ inl (eqb-true g h e)
    | inr e ↦ (let differ : g ≢ h = λ is. false≢true (sym e ∙ eq-eqb g h is) in inr (omega (arith, most, differ)))
  ]

  closed : (h : ℕ) (t : Sides) → gate_at graph.gates h ≡ Some t → bit_of more (graph.inputs + h) ≡ true → (p : ℕ) →
      IsSidePlace graph t p → (g ≡ h) ⊎ (g + 1 ≤ h) → bit_of more p ≡ true
  closed h t at marked p side (inl is) =
      let same : there.0 ≡ t = some_is (sym there.1 ∙ ap (gate_at graph.gates) is ∙ at) in
      let most : g ≤ h = omega (arith, is) in
      let was = subst (λ k. bit_of marks (graph.inputs + k) ≡ true) (sym is) (was_marked h most marked) in
      (on p).1 (inr (was, subst (λ x. IsSidePlace graph x p) (sym same) side))
  closed h t at marked p side (inr above) =
      let most : g ≤ h = omega (arith, above) in
      (on p).1 (inl (before.closed h t above at (was_marked h most marked) p side))

pub roots_marked : (graph : AigGraph) (nodes : List Node) (old marks : List Bool) →
    ((p : ℕ) → ((bit_of marks p ≡ true) ↔ AreRoots graph nodes p)) → length marks ≡ length old →
    AreCones graph nodes old marks (length graph.gates)
roots_marked graph nodes old marks exact long = record {
  sound = λ p h. (let r = (exact p).0 h in root r.0 p r.1 r.2);
  roots = λ p r. (exact p).1 r;
  closed = λ g s most at. (let below = number_of graph.gates g s at in absurd (omega (arith, below, most)));
  within = omega arith;
  same_length = long;
}

pub cones_marked : (graph : AigGraph) (nodes : List Node) (old marks : List Bool) → AreCones graph nodes old marks 0 →
    (p : ℕ) → ((bit_of marks p ≡ true) ↔ IsInCone graph nodes p)
cones_marked graph nodes old marks c p = (c.sound p, complete p) where
  complete : (q : ℕ) → IsInCone graph nodes q → bit_of marks q ≡ true
  complete _ (root n q inside is) = c.roots q (n, inside, is)
  complete _ (left g q s cone at is) = c.closed g s (omega arith) at (complete (graph.inputs + g) cone) q (inl is)
  complete _ (right g q s cone at is) = c.closed g s (omega arith) at (complete (graph.inputs + g) cone) q (inr is)

-- the roots so far
pub record AreRootMarks (graph : AigGraph) (nodes : List Node) (old marks : List Bool) : Type 0 where
  pub exact : (p : ℕ) → ((bit_of marks p ≡ true) ↔ AreRoots graph nodes p)
  pub same_length : length marks ≡ length old

pub no_roots : (graph : AigGraph) (marks : List Bool) → ((p : ℕ) → bit_of marks p ≡ false) →
    AreRootMarks graph [] marks marks
no_roots graph marks none = search (arith, false≢true)

pub root_more : (graph : AigGraph) (nodes : List Node) (old marks more : List Bool) (i : ℕ) (d : Node) →
    i < length nodes → AreRootMarks graph (take i nodes) old marks →
    ((p : ℕ) → ((bit_of more p ≡ true) ↔ ((bit_of marks p ≡ true) ⊎
    (place_of graph.inputs (get_or nodes i d) ≡ Some p)))) → length more ≡ length marks →
    AreRootMarks graph (take (i + 1) nodes) old more
root_more graph nodes old marks more i d below before step long =
    subst (λ xs. AreRootMarks graph xs old more) (sym (take_more nodes i d below)) whole where
      forth : (p : ℕ) → (bit_of marks p ≡ true) ⊎ (place_of graph.inputs (get_or nodes i d) ≡ Some p) →
          AreRoots graph (take i nodes ++ get_or nodes i d ∷ []) p
      forth p (inl h) = let r = (before.exact p).0 h in (
        r.0,
        Contains-append_left (take i nodes) (get_or nodes i d ∷ []) r.0 r.1,
        r.2,
      )
      forth p (inr is) = (get_or nodes i d, Contains-push (take i nodes) (get_or nodes i d), is)

      back : (p : ℕ) → AreRoots graph (take i nodes ++ get_or nodes i d ∷ []) p → bit_of more p ≡ true
      back p (m, inside, is) = elim (Contains-append_cases (take i nodes) (get_or nodes i d ∷ []) m inside) [
        | inl earlier ↦ (step p).1 (inl ((before.exact p).1 (m, earlier, is)))
        | inr here ↦ (step p).1 (inr (ap (place_of graph.inputs) (only here) ∙ is))
      ] where
        only : Contains (get_or nodes i d ∷ []) m → get_or nodes i d ≡ m
        only (zero, b, e) = e
        only (suc k, b, e) = absurd (omega arith)

      whole : AreRootMarks graph (take i nodes ++ get_or nodes i d ∷ []) old more
      whole = record { exact = λ p. ((λ h. forth p ((step p).0 h)), back p); same_length = long ∙ before.same_length }

pub handed_on : (graph : AigGraph) (g : ℕ) (s : Sides) (old mid new : List Bool) → gate_at graph.gates g ≡ Some s →
    bit_of old (graph.inputs + g) ≡ true →
    ((p : ℕ) → ((bit_of mid p ≡ true) ↔ ((bit_of old p ≡ true) ⊎ (place_of graph.inputs s.left ≡ Some p)))) →
    ((p : ℕ) → ((bit_of new p ≡ true) ↔ ((bit_of mid p ≡ true) ⊎ (place_of graph.inputs s.right ≡ Some p)))) →
    HandsOn graph g old new
handed_on graph g s old mid new at marked first second t at' p = search (arith, some_is)

pub not_handed_on : (graph : AigGraph) (g : ℕ) (marks : List Bool) → bit_of marks (graph.inputs + g) ≡ false →
    HandsOn graph g marks marks
not_handed_on graph g marks unmarked s at p = search (arith, false≢true)
