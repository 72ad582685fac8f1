-- What the nodes of a graph are worth and read, and that this stays as it grows.
use Rattle.std.proofs.Common.{◌≡◌, ℕ, suc, ◌≤◌, ◌<◌, ◌==◌, Bool, true, false, cond, ◌&&◌, inl, inr, List, [], ◌∷◌, ◌++◌, length, Some, refl, sym, ◌∙◌, ap, subst, arith, append_assoc}
use Rattle.std.specs.List.{Contains}
use Rattle.std.proofs.lemmas.Bool.{eqb-true, cond-false}
use Rattle.std.proofs.lemmas.List.Elements.{Contains-append_cases}
use Rattle.list_laws.proofs.Folds.{below-differs}
use Rattle.aig_graph.specs.declared.nodes.Node.{Node}
use Rattle.aig_graph.specs.declared.nodes.Node.TheVariants.{Constant, Input, Gate}
use Rattle.aig_graph.specs.declared.nodes.Sides.{Sides}
use Rattle.aig_graph.specs.Graph.{AigGraph, value_by, gate_value, node_value, support_by, gate_support, node_support, IsEarlierNode, IsNode, AreSides, AreGates, IsGraph, gate_at}
use Rattle.aig_graph.proofs.Numbered.{sides_are}
use Rattle.aig_graph.specs.Made.{Extends, HasMore, IsMade, sides_of}

value_before : (m : ℕ → Bool) (inputs : ℕ) (s : Sides) (gates : List Sides) (n : Node) →
    IsEarlierNode inputs (length gates) n → value_by m (gate_value m (s ∷ gates)) n ≡ value_by m (gate_value m gates) n
value_before m inputs s gates (Constant b) earlier = refl
value_before m inputs s gates (Input i negated) earlier = refl
value_before m inputs s gates (Gate g negated) earlier = search (arith, cond-false, below-differs)

support_before : (inputs : ℕ) (s : Sides) (gates : List Sides) (n : Node) → IsEarlierNode inputs (length gates) n →
    support_by (gate_support (s ∷ gates)) n ≡ support_by (gate_support gates) n
support_before inputs s gates (Constant b) earlier = refl
support_before inputs s gates (Input i negated) earlier = refl
support_before inputs s gates (Gate g negated) earlier = search (arith, cond-false, below-differs)

pub more_earlier : (inputs count more : ℕ) → count ≤ more → (n : Node) → IsEarlierNode inputs count n →
    IsEarlierNode inputs more n
more_earlier inputs count more most (Constant b) earlier = tt
more_earlier inputs count more most (Input i negated) earlier = earlier
more_earlier inputs count more most (Gate g negated) earlier = omega (arith, most, earlier)

longer : (more gates : List Sides) → length gates ≤ length (more ++ gates)
longer [] gates = omega arith
longer (s ∷ more) gates = let most = longer more gates in omega (arith, most)

values_stay : (m : ℕ → Bool) (inputs : ℕ) (more gates : List Sides) (n : Node) → IsEarlierNode inputs (length gates) n →
    value_by m (gate_value m (more ++ gates)) n ≡ value_by m (gate_value m gates) n
values_stay m inputs [] gates n earlier = refl
values_stay m inputs (s ∷ more) gates n earlier =
    value_before m inputs s (more ++ gates) n (more_earlier inputs (length gates) (length (more ++ gates))
    (longer more gates) n earlier) ∙ values_stay m inputs more gates n earlier

supports_stay : (inputs : ℕ) (more gates : List Sides) (n : Node) → IsEarlierNode inputs (length gates) n →
    support_by (gate_support (more ++ gates)) n ≡ support_by (gate_support gates) n
supports_stay inputs [] gates n earlier = refl
supports_stay inputs (s ∷ more) gates n earlier =
    support_before inputs s (more ++ gates) n (more_earlier inputs (length gates) (length (more ++ gates))
    (longer more gates) n earlier) ∙ supports_stay inputs more gates n earlier

node_stays : (old new : AigGraph) → HasMore old new → (n : Node) → IsNode old n → IsNode new n
node_stays old new h n earlier =
    subst (λ i. IsEarlierNode i (length new.gates) n) (sym h.inputs)
    (subst (λ gs. IsEarlierNode old.inputs (length gs) n) (sym h.grown)
    (more_earlier old.inputs (length old.gates) (length (h.more ++ old.gates)) (longer h.more old.gates) n earlier))

pub extends : (old new : AigGraph) → HasMore old new → Extends old new
extends old new h = record {
  inputs = h.inputs;
  nodes = node_stays old new h;
  values = λ n earlier m. ap (λ gs. value_by m (gate_value m gs) n) h.grown
      ∙ values_stay m old.inputs h.more old.gates n earlier;
  supports = λ n earlier. ap (λ gs. support_by (gate_support gs) n) h.grown
      ∙ supports_stay old.inputs h.more old.gates n earlier;
}

pub more_more : (a b c : AigGraph) → HasMore a b → HasMore b c → HasMore a c
more_more a b c h k = record {
  inputs = k.inputs ∙ h.inputs;
  more = k.more ++ h.more;
  grown = k.grown ∙ ap (λ gs. k.more ++ gs) h.grown ∙ sym (append_assoc k.more h.more a.gates);
}

-- a gate by its number
pub number_of : (gates : List Sides) (g : ℕ) (s : Sides) → gate_at gates g ≡ Some s → g < length gates
number_of [] g s at = cc
number_of (x ∷ gates) g s at = by_bit (g == length gates) refl (number_of gates g s) at where
  by_bit : (b : Bool) → (g == length gates) ≡ b → (gate_at gates g ≡ Some s → g < length gates) →
      cond b (Some x) (gate_at gates g) ≡ Some s → g < suc (length gates)
  by_bit true e later at = let is = eqb-true g (length gates) e in omega (arith, is)
  by_bit false e later at = let below = later at in omega (arith, below)

pub gate_value_in : (m : ℕ → Bool) (inputs : ℕ) (gates : List Sides) (g : ℕ) (s : Sides) → AreSides inputs g s →
    gate_at gates g ≡ Some s →
    gate_value m gates g ≡ (value_by m (gate_value m gates) s.left && value_by m (gate_value m gates) s.right)
gate_value_in m inputs [] g s sides at = cc
gate_value_in m inputs (x ∷ gates) g s sides at = by_bit (g == length gates) refl
    (gate_value_in m inputs gates g s sides) at where
      here : Sides → (ℕ → Bool) → Bool
      here t v = value_by m v t.left && value_by m v t.right

      up : g ≤ length gates → here s (gate_value m gates) ≡ here s (gate_value m (x ∷ gates))
      up most =
          ap (λ b. b && value_by m (gate_value m gates) s.right)
          (sym (value_before m inputs x gates s.left (more_earlier inputs g (length gates) most s.left sides.left)))
          ∙ ap (λ b. value_by m (gate_value m (x ∷ gates)) s.left && b)
          (sym (value_before m inputs x gates s.right (more_earlier inputs g (length gates) most s.right sides.right)))

      by_bit : (b : Bool) → (g == length gates) ≡ b → (gate_at gates g ≡ Some s →
          gate_value m gates g ≡ here s (gate_value m gates)) → cond b (Some x) (gate_at gates g) ≡ Some s →
          cond b (here x (gate_value m gates)) (gate_value m gates g) ≡ here s (gate_value m (x ∷ gates))
      by_bit true e later at = let same : x ≡ s = cc in let is = eqb-true g (length gates) e in
          ap (λ t. here t (gate_value m gates)) same ∙ up (omega (arith, is))
      by_bit false e later at = let below = number_of gates g s at in later at ∙ up (omega (arith, below))

pub gate_support_in : (inputs : ℕ) (gates : List Sides) (g : ℕ) (s : Sides) → AreSides inputs g s →
    gate_at gates g ≡ Some s →
    gate_support gates g ≡ support_by (gate_support gates) s.left ++ support_by (gate_support gates) s.right
gate_support_in inputs [] g s sides at = cc
gate_support_in inputs (x ∷ gates) g s sides at = by_bit (g == length gates) refl
    (gate_support_in inputs gates g s sides) at where
      here : Sides → (ℕ → List ℕ) → List ℕ
      here t v = support_by v t.left ++ support_by v t.right

      up : g ≤ length gates → here s (gate_support gates) ≡ here s (gate_support (x ∷ gates))
      up most =
          ap (λ xs. xs ++ support_by (gate_support gates) s.right)
          (sym (support_before inputs x gates s.left (more_earlier inputs g (length gates) most s.left sides.left)))
          ∙ ap (λ xs. support_by (gate_support (x ∷ gates)) s.left ++ xs)
          (sym (support_before inputs x gates s.right (more_earlier inputs g (length gates) most s.right sides.right)))

      by_bit : (b : Bool) → (g == length gates) ≡ b → (gate_at gates g ≡ Some s →
          gate_support gates g ≡ here s (gate_support gates)) → cond b (Some x) (gate_at gates g) ≡ Some s →
          cond b (here x (gate_support gates)) (gate_support gates g) ≡ here s (gate_support (x ∷ gates))
      by_bit true e later at = let same : x ≡ s = cc in let is = eqb-true g (length gates) e in
          ap (λ t. here t (gate_support gates)) same ∙ up (omega (arith, is))
      by_bit false e later at = let below = number_of gates g s at in later at ∙ up (omega (arith, below))

pub gate_value_at : (m : ℕ → Bool) (inputs : ℕ) (gates : List Sides) (g : ℕ) (s : Sides) → AreGates inputs gates →
    gate_at gates g ≡ Some s →
    gate_value m gates g ≡ (value_by m (gate_value m gates) s.left && value_by m (gate_value m gates) s.right)
gate_value_at m inputs gates g s all at = gate_value_in m inputs gates g s (sides_are inputs gates g s all at) at

pub gate_support_at : (inputs : ℕ) (gates : List Sides) (g : ℕ) (s : Sides) → AreGates inputs gates →
    gate_at gates g ≡ Some s →
    gate_support gates g ≡ support_by (gate_support gates) s.left ++ support_by (gate_support gates) s.right
gate_support_at inputs gates g s all at = gate_support_in inputs gates g s (sides_are inputs gates g s all at) at

-- a gate is true where its sides are
pub gate_is_made : (graph : AigGraph) → IsGraph graph → (g : ℕ) (a b : Node) →
    gate_at graph.gates g ≡ Some (sides_of a b) → IsMade (λ x y. x && y) graph graph a b (Gate g false)
gate_is_made graph lawful g a b at = record {
  is_node = number_of graph.gates g (sides_of a b) at;
  value = λ m. gate_value_at m graph.inputs graph.gates g (sides_of a b) lawful.gates at;
  reads = λ i has. Contains-append_cases (node_support graph a) (node_support graph b) i
      (subst (λ xs. Contains xs i) (gate_support_at graph.inputs graph.gates g (sides_of a b) lawful.gates at) has);
}

-- what is made over a graph's nodes later on
pub made_from : (f : Bool → Bool → Bool) (old new : AigGraph) (a b n : Node) → Extends old new → IsNode old a →
    IsNode old b → IsMade f new new a b n → IsMade f old new a b n
made_from f old new a b n e is_a is_b made = record {
  is_node = made.is_node;
  value = λ m. made.value m ∙ ap (λ x. f x (node_value new m b)) (e.values a is_a m) ∙ ap (f (node_value old m a))
      (e.values b is_b m);
  reads = λ i has. elim (made.reads i has) [
    | inl left ↦ inl (subst (λ xs. Contains xs i) (e.supports a is_a) left)
    | inr right ↦ inr (subst (λ xs. Contains xs i) (e.supports b is_b) right)
  ];
}

-- in either order
pub made_swapped : (old new : AigGraph) (a b n : Node) → IsMade (λ x y. x && y) old new b a n →
    IsMade (λ x y. x && y) old new a b n
made_swapped old new a b n made = record {
  is_node = made.is_node;
  value = λ m. made.value m ∙ and_swapped (node_value old m b) (node_value old m a);
  reads = λ i has. elim (made.reads i has) [ inl left ↦ inr left | inr right ↦ inl right ];
} where
  and_swapped : (x y : Bool) → (x && y) ≡ (y && x)
  and_swapped true true = refl
  and_swapped true false = refl
  and_swapped false true = refl
  and_swapped false false = refl

pub grown_twice : (a b c : AigGraph) → Extends a b → Extends b c → Extends a c
grown_twice a b c h k = record {
  inputs = k.inputs ∙ h.inputs;
  nodes = λ n is. k.nodes n (h.nodes n is);
  values = λ n is m. k.values n (h.nodes n is) m ∙ h.values n is m;
  supports = λ n is. k.supports n (h.nodes n is) ∙ h.supports n is;
}

pub extends-refl : (g : AigGraph) → Extends g g
extends-refl g = record { inputs = refl; nodes = λ n is. is; values = λ n is inputs. refl; supports = λ n is. refl }
