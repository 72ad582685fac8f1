-- What is made of what was made.
use Rattle.std.proofs.Common.{◌≡◌, ℕ, ◌==◌, Bool, true, false, cond, not, ◌&&◌, ◌||◌, inl, inr, List, [], ◌∷◌, ◌++◌, length, Some, refl, sym, ◌∙◌, ap, subst, arith}
use Rattle.std.specs.Prelude.{Result, Ok, Err, OnOk, OnErr, IfOk}
use Rattle.std.specs.List.{Contains, list_all}
use Rattle.std.proofs.lemmas.Bool.{eq-eqb, cond-true}
use Rattle.std.proofs.lemmas.List.Elements.{Contains-append_left, Contains-push}
use Rattle.aig_graph.specs.declared.nodes.Node.{Node}
use Rattle.aig_graph.specs.declared.nodes.Node.TheVariants.{Gate}
use Rattle.aig_graph.specs.declared.nodes.Sides.{Sides}
use Rattle.aig_graph.specs.Graph.{AigGraph, node_value, node_support, IsNode, AreSides, IsGraph, gate_at}
use Rattle.aig_graph.specs.Joining.{AreInner}
use Rattle.aig_graph.specs.Made.{Extends, HasMore, IsMade, IsChosen, IsCube, exclusive_or, sides_of, with_gate}
use Rattle.aig_graph.proofs.LargerGraphs.{extends, gate_is_made, made_from, made_swapped}

-- a gate more, or none
pub pushed_grown : {E : Type 0} (result : Result Node E) (old new : AigGraph) (s : Sides) →
    OnOk result (new ≡ with_gate old s) → OnErr result (new ≡ old) → HasMore old new
pushed_grown (Ok n) old new s ok err = record {
  inputs = ap (λ (g : AigGraph). g.inputs) ok;
  more = s ∷ [];
  grown =
      ap (λ (g : AigGraph). g.gates) ok;
}
pushed_grown (Err e) old new s ok err = search arith

pub pushed_made : {E : Type 0} (result : Result Node E) (old new : AigGraph) (a b : Node) → IsGraph old → IsNode old a →
    IsNode old b → AreInner old.inputs a b →
    IfOk result (λ n. n ≡ Gate (length old.gates) false) → OnOk result (new ≡ with_gate old (sides_of a b)) →
    IfOk result (IsMade (λ x y. x && y) old new a b)
pushed_made (Err e) old new a b lawful is_a is_b inner node ok = tt
pushed_made (Ok n) old new a b lawful is_a is_b inner node ok =
    let s = sides_of a b in
    let more = with_gate old s in
    let sides : AreSides old.inputs (length old.gates) s = record {
      left = is_a;
      right = is_b;
      left_inner = inner.left_inner;
      right_inner = inner.right_inner;
      apart =
          inner.apart;
    } in
    let whole : IsGraph more = record { few_inputs = lawful.few_inputs; gates = (sides, lawful.gates) } in
    let at : gate_at more.gates (length old.gates) ≡ Some s =
    cond-true (length old.gates == length old.gates) (Some s) (gate_at old.gates (length old.gates))
    (eq-eqb (length old.gates) (length old.gates) refl) in
    let grown : HasMore old more = record { inputs = refl; more = s ∷ []; grown = refl } in
    let made = made_from (λ x y. x && y) old more a b (Gate (length old.gates) false) (extends old more grown) is_a is_b
    (gate_is_made more whole (length old.gates) a b at) in
    subst (λ g. IsMade (λ x y. x && y) old g a b n) (sym ok)
    (subst (IsMade (λ x y. x && y) old more a b) (sym node) made)

-- the negation of a node
pub record IsNegation (n m : Node) : Type 0 where
  pub node : (graph : AigGraph) → IsNode graph n → IsNode graph m
  pub value : (graph : AigGraph) (inputs : ℕ → Bool) → node_value graph inputs m ≡ not (node_value graph inputs n)
  pub support : (graph : AigGraph) → node_support graph m ≡ node_support graph n

pub or_made : (old new : AigGraph) (a b na nb neither n : Node) → IsNegation a na → IsNegation b nb →
    IsNegation neither n → IsMade (λ x y. x && y) old new na nb neither → IsMade (λ x y. x || y) old new a b n
or_made old new a b na nb neither n va vb vn made = record {
  is_node = vn.node new made.is_node;
  value = λ m.
      vn.value new m ∙ ap not (made.value m) ∙ ap (λ x. not (x && node_value old m nb)) (va.value old m) ∙ ap
      (λ x. not (not (node_value old m a) && x)) (vb.value old m)
      ∙ de_morgan (node_value old m a) (node_value old m b);
  reads = λ i has.
      elim (made.reads i (subst (λ xs. Contains xs i) (vn.support new) has)) [
        | inl left ↦ inl (subst (λ xs. Contains xs i) (va.support old) left)
        | inr right ↦ inr (subst (λ xs. Contains xs i) (vb.support old) right)
      ];
} where
  de_morgan : (x y : Bool) → not (not x && not y) ≡ (x || y)
  de_morgan true true = refl
  de_morgan true false = refl
  de_morgan false true = refl
  de_morgan false false = refl

-- where the first is true the second, and where it is false the third
pub chosen : (g0 g1 g2 g3 : AigGraph) (c t e nc l r n : Node) → Extends g0 g1 → Extends g1 g2 → Extends g2 g3 →
    IsNode g0 c → IsNode g0 t → IsNode g0 e → IsNegation c nc →
    IsMade (λ x y. x && y) g0 g1 c t l → IsMade (λ x y. x && y) g1 g2 nc e r → IsMade (λ x y. x || y) g2 g3 l r n →
    IsChosen g0 g3 c t e n
chosen g0 g1 g2 g3 c t e nc l r n e1 e2 e3 is_c is_t is_e v left right either = record {
  is_node = either.is_node;
  value = λ m.
      either.value m
      ∙ ap (λ x. x || node_value g2 m r) (e2.values l left.is_node m ∙ left.value m)
      ∙ ap (λ x. (node_value g0 m c && node_value g0 m t) || x) (right.value m)
      ∙ ap (λ x. (node_value g0 m c && node_value g0 m t) || (x && node_value g1 m e))
      (v.value g1 m ∙ ap not (e1.values c is_c m))
      ∙ ap (λ x. (node_value g0 m c && node_value g0 m t) || (not (node_value g0 m c) && x)) (e1.values e is_e m)
      ∙ choice (node_value g0 m c) (node_value g0 m t) (node_value g0 m e);
  reads = λ i has.
      elim (either.reads i has) [
        | inl in_left ↦ elim (left.reads i (subst (λ xs. Contains xs i) (e2.supports l left.is_node) in_left))
            [ inl of_c ↦ inl of_c | inr of_t ↦ inr (inl of_t) ]
        | inr in_right ↦ elim (right.reads i in_right) [
          | inl of_c ↦ inl (subst (λ xs. Contains xs i) (v.support g1 ∙ e1.supports c is_c) of_c)
          | inr of_e ↦ inr (inr (subst (λ xs. Contains xs i) (e1.supports e is_e) of_e))
        ]
      ];
} where
  choice : (x y z : Bool) → ((x && y) || (not x && z)) ≡ cond x y z
  choice true true z = refl
  choice true false z = refl
  choice false y true = refl
  choice false y false = refl

-- the negation of the second where the first is true, and the second where it is false
pub xor_made : (g0 g1 g2 g3 : AigGraph) (a b na nb l r n : Node) → Extends g0 g1 → Extends g1 g2 → Extends g2 g3 →
    IsNode g0 a → IsNode g0 b → IsNegation a na → IsNegation b nb →
    IsMade (λ x y. x && y) g0 g1 a nb l → IsMade (λ x y. x && y) g1 g2 na b r → IsMade (λ x y. x || y) g2 g3 l r n →
    IsMade exclusive_or g0 g3 a b n
xor_made g0 g1 g2 g3 a b na nb l r n e1 e2 e3 is_a is_b va vb left right either =
    let c = chosen g0 g1 g2 g3 a nb b na l r n e1 e2 e3 is_a (vb.node g0 is_b) is_b va left right either in
    record {
      is_node = c.is_node;
      value = λ m. c.value m ∙ ap (λ x. cond (node_value g0 m a) x (node_value g0 m b)) (vb.value g0 m) ∙ other
          (node_value g0 m a) (node_value g0 m b);
      reads = λ i has. elim (c.reads i has) [
        | inl of_a ↦ inl of_a
        | inr of_b ↦ elim of_b [
          | inl negated ↦ inr (subst (λ xs. Contains xs i) (vb.support g0) negated)
          | inr plain ↦
              inr plain
        ]
      ];
    } where
      other : (x y : Bool) → cond x (not y) y ≡ exclusive_or x y
      other true y = refl
      other false y = refl

-- a node more
pub longer_cube : (old mid new : AigGraph) (nodes : List Node) (made n next : Node) → Extends old mid → IsNode old n →
    IsCube old mid nodes made → IsMade (λ x y. x && y) mid new made n next → IsCube old new (nodes ++ n ∷ []) next
longer_cube old mid new nodes made n next e is_n cube more = record {
  is_node = more.is_node;
  value = λ m. more.value m ∙ ap (λ x. x && node_value mid m n) (cube.value m) ∙ ap
      (λ x. list_all (node_value old m) nodes && x) (e.values n is_n m) ∙ sym (all_more (node_value old m) nodes);
  reads = λ i has. elim (more.reads i has) [
    | inl before ↦ (let r = cube.reads i before in record {
      node = r.node;
      among =
          Contains-append_left nodes (n ∷ []) r.node r.among;
      reads = r.reads;
    })
    | inr here ↦ record {
      node = n;
      among = Contains-push nodes n;
      reads =
          subst (λ xs. Contains xs i) (e.supports n is_n) here;
    }
  ];
} where
  all_more : (p : Node → Bool) (xs : List Node) → list_all p (xs ++ n ∷ []) ≡ (list_all p xs && p n)
  all_more p [] = and_true (p n) where
    and_true : (b : Bool) → (b && true) ≡ b
    and_true true = refl
    and_true false = refl
  all_more p (x ∷ xs) = ap (λ b. p x && b) (all_more p xs) ∙ assoc (p x) (list_all p xs) (p n) where
    assoc : (x y z : Bool) → (x && (y && z)) ≡ ((x && y) && z)
    assoc true y z = refl
    assoc false y z = refl

-- the same of what a call answers
pub swapped_if : {E : Type 0} (result : Result Node E) (old new : AigGraph) (a b : Node) →
    IfOk result (IsMade (λ x y. x && y) old new b a) → IfOk result (IsMade (λ x y. x && y) old new a b)
swapped_if (Ok n) old new a b made = made_swapped old new a b n made
swapped_if (Err e) old new a b made = tt

pub if_chosen : {E : Type 0} (result : Result Node E) (g0 g1 g2 g3 : AigGraph) (c t e nc l r : Node) → Extends g0 g1 →
    Extends g1 g2 → Extends g2 g3 → IsNode g0 c → IsNode g0 t → IsNode g0 e → IsNegation c nc →
    IsMade (λ x y. x && y) g0 g1 c t l → IsMade (λ x y. x && y) g1 g2 nc e r →
    IfOk result (IsMade (λ x y. x || y) g2 g3 l r) → IfOk result (IsChosen g0 g3 c t e)
if_chosen (Ok n) g0 g1 g2 g3 c t e nc l r e1 e2 e3 is_c is_t is_e v left right either =
    chosen g0 g1 g2 g3 c t e nc l r n e1 e2 e3 is_c is_t is_e v left right either
if_chosen (Err m) g0 g1 g2 g3 c t e nc l r e1 e2 e3 is_c is_t is_e v left right either = tt

pub if_xor : {E : Type 0} (result : Result Node E) (g0 g1 g2 g3 : AigGraph) (a b na nb l r : Node) → Extends g0 g1 →
    Extends g1 g2 → Extends g2 g3 → IsNode g0 a → IsNode g0 b → IsNegation a na → IsNegation b nb →
    IsMade (λ x y. x && y) g0 g1 a nb l → IsMade (λ x y. x && y) g1 g2 na b r →
    IfOk result (IsMade (λ x y. x || y) g2 g3 l r) → IfOk result (IsMade exclusive_or g0 g3 a b)
if_xor (Ok n) g0 g1 g2 g3 a b na nb l r e1 e2 e3 is_a is_b va vb left right either = search (arith, xor_made)
if_xor (Err m) g0 g1 g2 g3 a b na nb l r e1 e2 e3 is_a is_b va vb left right either = tt
