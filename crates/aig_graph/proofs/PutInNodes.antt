-- What becomes of nodes where others are put in for the last inputs.
use Rattle.std.proofs.Common.{◌≡◌, ℕ, ◌+◌, ◌-◌, ◌<◌, Bool, false, cond, ◌&&◌, inl, inr, List, ◌++◌, length, get_or, slice_get, Some, refl, sym, ◌∙◌, ap, subst, nat_lt, arith}
use Rattle.std.specs.List.{All, Contains}
use Rattle.std.proofs.lemmas.Bool.{cases_lt}
use Rattle.std.proofs.lemmas.List.{get_or_past}
use Rattle.std.proofs.lemmas.List.Elements.{Contains-append_left, Contains-append_right}
use Rattle.std.proofs.lemmas.Option.{slice_get_within, get_or_from_slice_get}
use Rattle.aig_graph.specs.declared.nodes.Node.{Node}
use Rattle.aig_graph.specs.declared.nodes.Node.TheVariants.{Constant, Input, Gate}
use Rattle.aig_graph.specs.declared.nodes.Sides.{Sides}
use Rattle.aig_graph.specs.Graph.{AigGraph, with_sign, node_value, gate_support, node_support, IsNode, IsGraph, gate_at}
use Rattle.aig_graph.specs.Made.{Extends, IsMade}
use Rattle.aig_graph.specs.Substituting.{first_inputs, values_put_in, IsReadThrough, IsPutIn}
use Rattle.aig_graph.proofs.LargerGraphs.{gate_value_at, gate_support_at, number_of}

-- as a graph grows
module _ (g h : AigGraph) (e : Extends g h) (subs : List Node) (are : All (IsNode g) subs) where
  sub_node : (k : ℕ) → IsNode g (get_or subs k (Constant false))
  sub_node k = search (arith, cases_lt, get_or_past)

  value_same : (inputs : ℕ → Bool) (i : ℕ) → values_put_in h subs inputs i ≡ values_put_in g subs inputs i
  value_same inputs i =
      ap (λ n. cond (nat_lt i (n - length subs)) (inputs i) (node_value h inputs
      (get_or subs (i - (n - length subs)) (Constant false)))) e.inputs
      ∙ ap (λ b. cond (nat_lt i (g.inputs - length subs)) (inputs i) b)
      (e.values (get_or subs (i - (g.inputs - length subs)) (Constant false))
      (sub_node (i - (g.inputs - length subs))) inputs)

  values_same : (inputs : ℕ → Bool) → values_put_in h subs inputs ≡ values_put_in g subs inputs
  values_same inputs = λ j i. value_same inputs i j

  sub_at : (k : ℕ) (s : Node) → slice_get subs k ≡ Some s → IsNode g s
  sub_at k s at = search (arith, get_or_from_slice_get, slice_get_within)

  read_forth : (node : Node) → IsNode g node → (i : ℕ) → IsReadThrough g node subs i → IsReadThrough h node subs i
  read_forth node is i (inl (has, below)) = search arith
  read_forth node is i (inr r) = search (arith, sub_at)

  read_back : (node : Node) → IsNode g node → (i : ℕ) → IsReadThrough h node subs i → IsReadThrough g node subs i
  read_back node is i (inl (has, below)) = inl (
    subst (λ xs. Contains xs i) (e.supports node is) has,
    subst (λ n. i < n - length subs) e.inputs below,
  )
  read_back node is i (inr r) = inr (record {
    place = r.place;
    sub = r.sub;
    at = r.at;
    put_in = subst (λ xs. Contains xs (g.inputs - length subs + r.place)) (e.supports node is)
        (subst (λ n. Contains (node_support h node) (n - length subs + r.place)) e.inputs r.put_in);
    reads = subst (λ xs. Contains xs i) (e.supports r.sub (sub_at r.place r.sub r.at)) r.reads;
  })

  value_there : (node : Node) → IsNode g node → (inputs : ℕ → Bool) →
      node_value h (values_put_in h subs inputs) node ≡ node_value g (values_put_in g subs inputs) node
  value_there node is inputs = ap (λ m. node_value h m node) (values_same inputs) ∙ e.values node is
      (values_put_in g subs inputs)

  put_forth : (node n : Node) → IsNode g node → IsPutIn g h node subs n → IsPutIn h h node subs n
  put_forth node n is p = record {
    is_node = p.is_node;
    value = λ inputs. p.value inputs ∙ sym (value_there node is inputs);
    reads = λ i has. read_forth node is i (p.reads i has);
  }

  pub put_from : (node n : Node) → IsNode g node → IsPutIn h h node subs n → IsPutIn g h node subs n
  put_from node n is p = record {
    is_node = p.is_node;
    value = λ inputs. p.value inputs ∙ value_there node is inputs;
    reads = λ i has. read_back node is i (p.reads i has);
  }

  pub put_stays : (node n : Node) → IsNode g node → IsPutIn g g node subs n → IsPutIn h h node subs n
  put_stays node n is p = put_forth node n is (record {
    is_node = e.nodes n p.is_node;
    value = λ inputs. e.values n p.is_node inputs ∙ p.value inputs;
    reads = λ i has. p.reads i (subst (λ xs. Contains xs i) (e.supports n p.is_node) has);
  })

  -- a gate is made of what became of its sides
  pub gate_put : (k : ℕ) (s : Sides) (l r n : Node) → IsGraph g → gate_at g.gates k ≡ Some s →
      IsPutIn g g s.left subs l → IsPutIn g g s.right subs r → IsMade (λ x y. x && y) g h l r n
      → IsPutIn h h (Gate k false) subs n
  gate_put k s l r n lawful at left right made = put_forth (Gate k false) n (number_of g.gates k s at) (record {
    is_node = made.is_node;
    value = λ inputs.
        made.value inputs ∙ ap (λ b. b && node_value g inputs r) (left.value inputs) ∙ ap
        (λ b. node_value g (values_put_in g subs inputs) s.left && b) (right.value inputs)
        ∙ sym (gate_value_at (values_put_in g subs inputs) g.inputs g.gates k s lawful.gates at);
    reads = λ i has. elim (made.reads i has) [
      | inl of_left ↦ by_left i (left.reads i of_left)
      | inr of_right ↦
          by_right i (right.reads i of_right)
    ];
  }) where
    support : gate_support g.gates k ≡ node_support g s.left ++ node_support g s.right
    support = gate_support_at g.inputs g.gates k s lawful.gates at

    from_left : (i : ℕ) → Contains (node_support g s.left) i → Contains (gate_support g.gates k) i
    from_left i has = subst (λ xs. Contains xs i) (sym support)
        (Contains-append_left (node_support g s.left) (node_support g s.right) i has)

    from_right : (i : ℕ) → Contains (node_support g s.right) i → Contains (gate_support g.gates k) i
    from_right i has = subst (λ xs. Contains xs i) (sym support)
        (Contains-append_right (node_support g s.left) (node_support g s.right) i has)

    by_left : (i : ℕ) → IsReadThrough g s.left subs i → IsReadThrough g (Gate k false) subs i
    by_left i (inl (has, below)) = inl (from_left i has, below)
    by_left i (inr t) = inr (record {
      place = t.place;
      sub = t.sub;
      at = t.at;
      put_in =
          from_left (first_inputs g subs + t.place) t.put_in;
      reads = t.reads;
    })

    by_right : (i : ℕ) → IsReadThrough g s.right subs i → IsReadThrough g (Gate k false) subs i
    by_right i (inl (has, below)) = inl (from_right i has, below)
    by_right i (inr t) = inr (record {
      place = t.place;
      sub = t.sub;
      at = t.at;
      put_in =
          from_right (first_inputs g subs + t.place) t.put_in;
      reads = t.reads;
    })

-- a node and what became of it, both negated or not
pub signed_put : (g : AigGraph) (subs : List Node) (node signed n m : Node) (negated : Bool) → IsPutIn g g node subs n
    → ((inputs : ℕ → Bool) → node_value g inputs signed ≡ with_sign negated (node_value g inputs node)) →
    node_support g signed ≡ node_support g node
    → (IsNode g n → IsNode g m) → ((inputs : ℕ → Bool) → node_value g inputs m ≡ with_sign negated
    (node_value g inputs n)) → node_support g m ≡ node_support g n
    → IsPutIn g g signed subs m
signed_put g subs node signed n m negated p value support is_node made_value made_support = record {
  is_node = is_node p.is_node;
  value = λ inputs. made_value inputs ∙ ap (with_sign negated) (p.value inputs) ∙ sym
      (value (values_put_in g subs inputs));
  reads = λ i has. from i (p.reads i (subst (λ xs. Contains xs i) made_support has));
} where
  from : (i : ℕ) → IsReadThrough g node subs i → IsReadThrough g signed subs i
  from i (inl (has, below)) = inl (subst (λ xs. Contains xs i) (sym support) has, below)
  from i (inr t) = inr (record {
    place = t.place;
    sub = t.sub;
    at = t.at;
    put_in =
        subst (λ xs. Contains xs (first_inputs g subs + t.place)) (sym support) t.put_in;
    reads = t.reads;
  })

pub input_put : (g : AigGraph) (subs : List Node) (i : ℕ) (negated : Bool) (side n m : Node) → side ≡ Input i negated →
    IsPutIn g g (Input i false) subs n
    → ((graph : AigGraph) → IsNode graph n → IsNode graph m) →
    ((graph : AigGraph) (inputs : ℕ → Bool) → node_value graph inputs m ≡ with_sign negated
    (node_value graph inputs n))
    → ((graph : AigGraph) → node_support graph m ≡ node_support graph n) → IsPutIn g g side subs m
input_put g subs i negated side n m is p node value support =
    subst (λ s. IsPutIn g g s subs m) (sym is) (signed_put g subs (Input i false) (Input i negated) n m negated p
    (λ inputs. refl) refl (node g) (value g) (support g))

pub gate_side_put : (g : AigGraph) (subs : List Node) (k : ℕ) (negated : Bool) (side n m : Node) →
    side ≡ Gate k negated → IsPutIn g g (Gate k false) subs n
    → ((graph : AigGraph) → IsNode graph n → IsNode graph m) →
    ((graph : AigGraph) (inputs : ℕ → Bool) → node_value graph inputs m ≡ with_sign negated
    (node_value graph inputs n))
    → ((graph : AigGraph) → node_support graph m ≡ node_support graph n) → IsPutIn g g side subs m
gate_side_put g subs k negated side n m is p node value support =
    subst (λ s. IsPutIn g g s subs m) (sym is) (signed_put g subs (Gate k false) (Gate k negated) n m negated p
    (λ inputs. refl) refl (node g) (value g) (support g))
