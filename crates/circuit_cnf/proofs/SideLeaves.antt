-- Leaves of a gate's sides.
use Rattle.std.proofs.Common.{◌≡◌, ℕ, zero, suc, ◌+◌, ◌<◌, Bool, true, false, List, [], ◌∷◌, length, get_or, Some, refl, sym, ◌∙◌, ap, subst, arith}
use Rattle.dq_lits.specs.Literal.{Literal, positive, negative, variable_of}
use Rattle.dq_lits.specs.Formula.{Dqbf}
use Rattle.dq_lits.specs.Row.{bit_of}
use Rattle.dq_lits.proofs.SignedLiterals.{as_positive}
use Rattle.aig_graph.specs.declared.nodes.Node.{Node}
use Rattle.aig_graph.specs.declared.nodes.Node.TheVariants.{Constant, Input, Gate}
use Rattle.aig_graph.specs.declared.nodes.Sides.{Sides}
use Rattle.aig_graph.specs.declared.nodes.Look.TheVariants.{Gate as LookGate}
use Rattle.aig_graph.specs.Graph.{AigGraph, IsEarlierNode, AreSides, IsGateLook, gate_at, place_of}
use Rattle.hint_log.specs.Entries.{Entry, name_of}
use Rattle.hint_log.specs.declared.names.Name.TheVariants.{Input as InputName, And}
use Rattle.hint_log.specs.declared.origins.Leaf.{Leaf}
use Rattle.hint_log.specs.declared.origins.Leaf.TheVariants.{Literal as LeafLiteral}
use Rattle.hint_log.specs.Conditions.{is_circuit_name}
use Rattle.hint_log.specs.Origins.{leaf_with_sign}
use Rattle.log_laws.proofs.Found.{named_variable, slice_get_at}
use Rattle.log_laws.proofs.Kept.{NamesStay}
use Rattle.circuit_cnf.specs.Checking.{AreInputs}
use Rattle.circuit_cnf.specs.Leaves.{HasLeaf, constant, input, gate, leaf_by, HaveLeaves, AreClosed, AreMarkedUniversals}

-- leaves stay as names do
pub leaf_stays : (f : Dqbf) (graph : AigGraph) (old new : List Entry) → NamesStay old new → (n : Node) (leaf : Leaf) →
    HasLeaf f graph old n leaf → HasLeaf f graph new n leaf
leaf_stays f graph old new stay _ _ (constant b) = constant b
leaf_stays f graph old new stay _ _ (input i x v negated at named) = input i x v negated at (stay v (InputName x) named)
leaf_stays f graph old new stay _ _ (gate g v sides negated a b at are on_left on_right named) =
    gate g v sides negated a b at are (leaf_stays f graph old new stay sides.left (LeafLiteral a) on_left)
    (leaf_stays f graph old new stay sides.right (LeafLiteral b) on_right) (stay v (And a b) named)

-- the input of a place
pub input_at : (es : List Entry) (us : List ℕ) (inputs : List Literal) (i : ℕ) → AreInputs us inputs es →
    i < length us →
    (v : ℕ) × (get_or inputs i (positive 0) ≡ positive v) × (name_of es v ≡ Some (InputName (get_or us i 0)))
input_at es [] inputs i h below = absurd (omega arith)
input_at es (u ∷ us) [] i h below = cc
input_at es (u ∷ us) (l ∷ ls) zero h below = search (arith, named_variable, as_positive)
input_at es (u ∷ us) (l ∷ ls) (suc i) h below = search (arith, (input_at es us ls i))

-- either sign of a gate
gate_sign : (f : Dqbf) (graph : AigGraph) (es : List Entry) (n : Node) (leaf : Leaf) → HasLeaf f graph es n leaf →
    (g : ℕ) (l : Literal) → n ≡ Gate g false → leaf ≡ LeafLiteral l → (negated : Bool) →
    HasLeaf f graph es (Gate g negated) (leaf_with_sign negated (LeafLiteral l))
gate_sign f graph es _ _ (gate h v sides s a b at are on_left on_right named) g l is leaf_is negated =
    let number : h ≡ g = cc in
    let plain : s ≡ false = cc in
    let literal : positive v ≡ l = some_leaf (positive v) l (ap (λ t. leaf_with_sign t (LeafLiteral (positive v)))
    (sym plain) ∙ leaf_is) in
    subst (λ k. HasLeaf f graph es (Gate k negated) (leaf_with_sign negated (LeafLiteral l))) number
    (subst (λ k. HasLeaf f graph es (Gate h negated) (leaf_with_sign negated (LeafLiteral k))) literal
    (gate h v sides negated a b at are on_left on_right named)) where
      some_leaf : (x y : Literal) → LeafLiteral x ≡ LeafLiteral y → x ≡ y
      some_leaf x y e = cc
gate_sign f graph es _ _ _ g l is leaf_is negated = cc

-- a leaf that isn't constant stands on an input or a gate
signed_variable : (s : Bool) (v : ℕ) (l : Literal) → leaf_with_sign s (LeafLiteral (positive v)) ≡ LeafLiteral l →
    v ≡ variable_of l
signed_variable false v l is = let e : positive v ≡ l = cc in ap variable_of e
signed_variable true v l is = let e : negative v ≡ l = cc in ap variable_of e

pub leaf_is_circuit : (f : Dqbf) (graph : AigGraph) (es : List Entry) (n : Node) (leaf : Leaf) →
    HasLeaf f graph es n leaf → (l : Literal) → leaf ≡ LeafLiteral l →
    is_circuit_name (name_of es (variable_of l)) ≡ true
leaf_is_circuit f graph es _ _ (constant b) l is = cc
leaf_is_circuit f graph es _ _ (input i x v s at named) l is = search (arith, signed_variable)
leaf_is_circuit f graph es _ _ (gate g v sides s a b at are on_left on_right named) l is =
    ap (λ w. is_circuit_name (name_of es w)) (sym (signed_variable s v l is)) ∙ ap is_circuit_name named

pub side_has_leaf : (f : Dqbf) (graph : AigGraph) (es : List Entry) (inputs literals : List Literal) (marks : List Bool)
    → AreMarkedUniversals f graph marks → AreInputs f.universals inputs es → HaveLeaves f graph marks literals es →
    (n : Node) → IsEarlierNode graph.inputs (length literals) n →
    ((p : ℕ) → place_of graph.inputs n ≡ Some p → bit_of marks p ≡ true) →
    HasLeaf f graph es n (leaf_by inputs literals n)
side_has_leaf f graph es inputs literals marks low are have (Constant b) earlier marked = constant b
side_has_leaf f graph es inputs literals marks low are have (Input i negated) earlier marked =
    let below : i < length f.universals = low i earlier (marked i refl) in
    let at = input_at es f.universals inputs i are below in
    subst (λ l. HasLeaf f graph es (Input i negated) (leaf_with_sign negated (LeafLiteral l))) (sym at.1)
    (input i (get_or f.universals i 0) at.0 negated (slice_get_at f.universals i 0 below) at.2)
side_has_leaf f graph es inputs literals marks low are have (Gate g negated) earlier marked =
    search (arith, gate_sign)

-- the sides of a look, with the literals that stand for them
pub record AreSideLeaves (f : Dqbf) (graph : AigGraph) (es : List Entry) (g : ℕ) (a b : Literal) : Type 0 where
  pub sides : Sides
  pub at : gate_at graph.gates g ≡ Some sides
  pub are_sides : AreSides graph.inputs g sides
  pub left : HasLeaf f graph es sides.left (LeafLiteral a)
  pub right : HasLeaf f graph es sides.right (LeafLiteral b)

pub side_leaves : (f : Dqbf) (graph : AigGraph) (es : List Entry) (inputs literals : List Literal) (marks : List Bool) →
    AreMarkedUniversals f graph marks → AreInputs f.universals inputs es → HaveLeaves f graph marks literals es →
    AreClosed graph marks → bit_of marks (graph.inputs + length literals) ≡ true →
    (m n : Node) (negated : Bool) (a b : Literal) → IsGateLook graph (length literals) false
    (LookGate m n negated) →
    LeafLiteral a ≡ leaf_by inputs literals m → LeafLiteral b ≡ leaf_by inputs literals n →
    AreSideLeaves f graph es (length literals) a b
side_leaves f graph es inputs literals marks low are have closed marked m n negated a b look a_is b_is =
    search (
      arith,
      (side_has_leaf f graph es inputs literals marks low are have look.sides.left look.are_sides.left),
      (side_has_leaf f graph es inputs literals marks low are have look.sides.right look.are_sides.right),
    )

pub gate_leaf : (f : Dqbf) (graph : AigGraph) (old new : List Entry) (g v : ℕ) (a b l : Literal) → NamesStay old new →
    AreSideLeaves f graph old g a b → name_of new v ≡ Some (And a b) → l ≡ positive v →
    HasLeaf f graph new (Gate g false) (LeafLiteral l)
gate_leaf f graph old new g v a b l stay s named is =
    subst (λ k. HasLeaf f graph new (Gate g false) (LeafLiteral k)) (sym is)
    (gate g v s.sides false a b s.at s.are_sides (leaf_stays f graph old new stay s.sides.left (LeafLiteral a) s.left)
    (leaf_stays f graph old new stay s.sides.right (LeafLiteral b) s.right) named)
