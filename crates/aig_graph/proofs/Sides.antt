-- A gate beside one of its sides.
use Rattle.std.proofs.Common.{◌≡◌, ℕ, Bool, true, false, not, ◌&&◌, Option, None, Some, refl, sym, ◌∙◌, subst, arith}
use Rattle.std.specs.Prelude.{IfSome}
use Rattle.list_laws.proofs.Truths.{and_turned}
use Rattle.aig_graph.specs.declared.nodes.Node.{Node}
use Rattle.aig_graph.specs.declared.nodes.Node.TheVariants.{Constant, Input, Gate}
use Rattle.aig_graph.specs.declared.nodes.Sides.{Sides}
use Rattle.aig_graph.specs.declared.nodes.Beside.{Beside}
use Rattle.aig_graph.specs.declared.nodes.Beside.TheVariants.{Same, Opposite, Apart}
use Rattle.aig_graph.specs.Graph.{AigGraph, with_sign, gate_value, node_value, IsNode, IsGraph, gate_at}
use Rattle.aig_graph.specs.Joining.{opposite_node, IsBeside, node_by_side}
use Rattle.aig_graph.specs.Made.{IsMade}
use Rattle.aig_graph.proofs.LargerGraphs.{gate_value_at, number_of, made_swapped}

sign_not : (s b : Bool) → with_sign (not s) b ≡ not (with_sign s b)
sign_not false b = refl
sign_not true true = refl
sign_not true false = refl

opposite_value : (graph : AigGraph) (m : ℕ → Bool) (n : Node) →
    node_value graph m (opposite_node n) ≡ not (node_value graph m n)
opposite_value graph m (Constant b) = refl
opposite_value graph m (Input i s) = sign_not s (m i)
opposite_value graph m (Gate g s) = sign_not s (gate_value m graph.gates g)

same_side : (p r : Bool) → (p && r) ≡ ((p && r) && p)
same_side true true = refl
same_side true false = refl
same_side false r = refl

negated_gate : (p r : Bool) → not p ≡ (not (p && r) && not p)
negated_gate true true = refl
negated_gate true false = refl
negated_gate false r = refl

-- where the gate is a part and the rest
pub by_side_made : (graph : AigGraph) (g : ℕ) (negated : Bool) (part b : Node) (rest : (ℕ → Bool) → Bool) →
    IsNode graph (Gate g false) → IsNode graph b →
    ((m : ℕ → Bool) → gate_value m graph.gates g ≡ (node_value graph m part && rest m)) → (side : Beside) →
    IsBeside part b side →
    IfSome (node_by_side (Gate g negated) negated side b) (IsMade (λ x y. x && y) graph graph (Gate g negated) b)
by_side_made graph g false part b rest is_gate is_b value Same is = search (arith, same_side)
by_side_made graph g false part b rest is_gate is_b value Opposite is = search (arith, opposite_value)
by_side_made graph g false part b rest is_gate is_b value Apart is = tt
by_side_made graph g true part b rest is_gate is_b value Same is = tt
by_side_made graph g true part b rest is_gate is_b value Opposite is = search (arith, opposite_value, negated_gate)
by_side_made graph g true part b rest is_gate is_b value Apart is = tt

pub by_left : (graph : AigGraph) (g : ℕ) (negated : Bool) (s : Sides) (b : Node) → IsGraph graph →
    gate_at graph.gates g ≡ Some s → IsNode graph b → (side : Beside) → IsBeside s.left b side →
    IfSome (node_by_side (Gate g negated) negated side b) (IsMade (λ x y. x && y) graph graph (Gate g negated) b)
by_left graph g negated s b lawful at is_b side is =
    by_side_made graph g negated s.left b (λ m. node_value graph m s.right) (number_of graph.gates g s at) is_b
    (λ m. gate_value_at m graph.inputs graph.gates g s lawful.gates at) side is

pub by_right : (graph : AigGraph) (g : ℕ) (negated : Bool) (s : Sides) (b : Node) → IsGraph graph →
    gate_at graph.gates g ≡ Some s → IsNode graph b → (side : Beside) → IsBeside s.right b side →
    IfSome (node_by_side (Gate g negated) negated side b) (IsMade (λ x y. x && y) graph graph (Gate g negated) b)
by_right graph g negated s b lawful at is_b side is =
    by_side_made graph g negated s.right b (λ m. node_value graph m s.left) (number_of graph.gates g s at) is_b
    (λ m. gate_value_at m graph.inputs graph.gates g s lawful.gates at ∙ and_turned (node_value graph m s.left)
    (node_value graph m s.right)) side is

pub swapped_some : (result : Option Node) (graph : AigGraph) (a b : Node) →
    IfSome result (IsMade (λ x y. x && y) graph graph b a) → IfSome result (IsMade (λ x y. x && y) graph graph a b)
swapped_some None graph a b made = tt
swapped_some (Some n) graph a b made = made_swapped graph graph a b n made

-- as it is answered
pub answered : (result : Option Node) (graph : AigGraph) (a : Node) (g : ℕ) (negated : Bool) (b : Node) (side : Beside)
    → a ≡ Gate g negated → result ≡ node_by_side (Gate g negated) negated side b →
    IfSome (node_by_side (Gate g negated) negated side b) (IsMade (λ x y. x && y) graph graph (Gate g negated) b) →
    IfSome result (IsMade (λ x y. x && y) graph graph a b)
answered result graph a g negated b side is result_is made =
    subst (λ r. IfSome r (IsMade (λ x y. x && y) graph graph a b)) (sym result_is)
    (subst (λ n. IfSome (node_by_side (Gate g negated) negated side b) (IsMade (λ x y. x && y) graph graph n b))
    (sym is) made)
