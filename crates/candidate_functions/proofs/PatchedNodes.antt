-- Nodes that tell whether the inputs are at a pair with a bit, and what is patched with them.
use Rattle.std.proofs.Common.{◌≡◌, ℕ, suc, ◌+◌, ◌<◌, Bool, true, false, not, ◌&&◌, ◌||◌, List, [], ◌∷◌, ◌++◌, length, take, get_or, refl, sym, ◌∙◌, ap, subst, inl, inr, arith}
use Rattle.std.specs.List.{All, Contains}
use Rattle.std.proofs.lemmas.List.{take_more}
use Rattle.std.proofs.lemmas.List.Folds.{list_any_more}
use Rattle.std.proofs.lemmas.List.Elements.{Contains-append_left, Contains-push}
use Rattle.aig_graph.specs.Graph.{AigGraph, node_value, node_support, IsNode}
use Rattle.aig_graph.specs.Made.{Extends, IsMade}
use Rattle.aig_graph.specs.declared.nodes.Node.{Node}
use Rattle.aig_graph.proofs.LargerGraphs.{grown_twice}
use Rattle.expansion.specs.Table.{PointBits}
use Rattle.candidate_functions.specs.Pairs.{at_pair, has_bit, IsReadByPair, IsWith, IsAtPair, IsMasked, IsPatched}
use Rattle.candidate_functions.specs.declared.cubes.Pair.{Pair}

pub with_one : (old new : AigGraph) (made : Node) (bit : Bool) (cube node : Node) → bit ≡ true →
    IsMade (λ x y. x || y) old new made cube node → IsWith old new made bit cube node
with_one old new made bit cube node is one = record {
  is_node = one.is_node;
  value = λ inputs. one.value inputs ∙ ap (λ b. node_value old inputs made || (b && node_value old inputs cube))
      (sym is);
  reads = one.reads;
}

-- how far a walk over the pairs has come
pub record AtPairSoFar (old mid : AigGraph) (bits : ℕ → Bool) (pairs : List Pair) (made : Node) : Type 0 where
  pub grown : Extends old mid
  pub at : IsAtPair old mid bits pairs made

longer : (g : AigGraph) (pairs : List Pair) (p : Pair) (i : ℕ) → IsReadByPair g pairs i →
    IsReadByPair g (pairs ++ p ∷ []) i
longer g pairs p i by = record {
  pair = by.pair;
  among = Contains-append_left pairs (p ∷ []) by.pair by.among;
  reads =
      by.reads;
}

pub one_pair_more : (old mid new : AigGraph) (bits : ℕ → Bool) (pairs : List Pair) (i : ℕ) (d : Pair) (made node : Node)
    (bit : Bool)
    → i < length pairs → IsNode old (get_or pairs i d).cube → bit ≡ bits (get_or pairs i d).round
    → AtPairSoFar old mid bits (take i pairs) made → Extends mid new →
    IsWith mid new made bit (get_or pairs i d).cube node
    → AtPairSoFar old new bits (take (i + 1) pairs) node
one_pair_more old mid new bits pairs i d made node bit below cube is far grown with =
    let p = get_or pairs i d in
    let here : take (i + 1) pairs ≡ take i pairs ++ p ∷ [] = take_more pairs i d below in
    record {
      grown = grown_twice old mid new far.grown grown;
      at = record {
        is_node = with.is_node;
        value = λ inputs.
            with.value inputs
            ∙ ap (λ b. b || (bit && node_value mid inputs p.cube)) (far.at.value inputs)
            ∙ ap (λ b. at_pair old bits (take i pairs) inputs || (b && node_value mid inputs p.cube)) is
            ∙ ap (λ b. at_pair old bits (take i pairs) inputs || (bits p.round && b))
            (far.grown.values p.cube cube inputs)
            ∙ sym (list_any_more (λ q. bits q.round && node_value old inputs q.cube) pairs i d below);
        reads = λ j has. elim (with.reads j has) [
          | inl before ↦ subst (λ ps. IsReadByPair old ps j) (sym here)
              (longer old (take i pairs) p j (far.at.reads j before))
          | inr own ↦ subst (λ ps. IsReadByPair old ps j) (sym here) (record {
            pair = p;
            among = Contains-push (take i pairs) p;
            reads = subst (λ s. Contains s j) (far.grown.supports p.cube cube) own;
          })
        ];
      };
    }

pub masked_by : (old mid new : AigGraph) (bits : ℕ → Bool) (pairs : List Pair) (other zeros negated node : Node)
    → Extends old mid → IsNode old other → IsAtPair old mid bits pairs zeros
    → ((inputs : ℕ → Bool) → node_value mid inputs negated ≡ not (node_value mid inputs zeros)) →
    node_support mid negated ≡ node_support mid zeros
    → IsMade (λ x y. x && y) mid new other negated node → IsMasked old new bits pairs other node
masked_by old mid new bits pairs other zeros negated node grown is at turned same made = record {
  is_node = made.is_node;
  value = λ inputs.
      made.value inputs
      ∙ ap (λ b. b && node_value mid inputs negated) (grown.values other is inputs)
      ∙ ap (λ b. node_value old inputs other && b) (turned inputs ∙ ap not (at.value inputs));
  reads = λ i has. elim (made.reads i has) [
    | inl left ↦ inl (subst (λ s. Contains s i) (grown.supports other is) left)
    | inr right ↦ inr (at.reads i (subst (λ s. Contains s i) same right))
  ];
}

module _ (a b : AigGraph) (h : Extends a b) where
  at_pair_stays : (bits : ℕ → Bool) (pairs : List Pair) (inputs : ℕ → Bool) → All (λ p. IsNode a p.cube) pairs →
      at_pair b bits pairs inputs ≡ at_pair a bits pairs inputs
  at_pair_stays bits [] inputs nodes = refl
  at_pair_stays bits (p ∷ pairs) inputs nodes =
      ap (λ v. (bits p.round && v) || at_pair b bits pairs inputs) (h.values p.cube (nodes 0 p (omega arith)) inputs)
      ∙ ap (λ v. (bits p.round && node_value a inputs p.cube) || v)
      (at_pair_stays bits pairs inputs (λ k d below. nodes (suc k) d (omega (arith, below))))

  read_before : (pairs : List Pair) (i : ℕ) → All (λ p. IsNode a p.cube) pairs → IsReadByPair b pairs i →
      IsReadByPair a pairs i
  read_before pairs i nodes by = record {
    pair = by.pair;
    among = by.among;
    reads =
        let (k, below, is) = by.among in
        let node = subst (λ (p : Pair). IsNode a p.cube) is (nodes k by.pair below) in
        subst (λ s. Contains s i) (h.supports by.pair.cube node) by.reads;
  }

pub patched_by : (old mid last new : AigGraph) (points : PointBits) (y : ℕ) (pairs : List Pair)
    (other rest ones node : Node)
    → Extends old mid → Extends mid last → All (λ p. IsNode old p.cube) pairs
    → IsMasked old mid (has_bit false points y) pairs other rest → IsAtPair mid last (has_bit true points y) pairs ones
    → IsMade (λ x y. x || y) last new ones rest node → IsPatched old new points y pairs other node
patched_by old mid last new points y pairs other rest ones node grown more cubes masked at made = record {
  is_node = made.is_node;
  value = λ inputs.
      made.value inputs
      ∙ ap (λ b. b || node_value last inputs rest) (at.value inputs ∙ at_pair_stays old mid grown
      (has_bit true points y) pairs inputs cubes)
      ∙ ap (λ b. at_pair old (has_bit true points y) pairs inputs || b)
      (more.values rest masked.is_node inputs ∙ masked.value inputs);
  reads = λ i has. elim (made.reads i has) [
    | inl one ↦ inr (read_before old mid grown pairs i cubes (at.reads i one))
    | inr other ↦ masked.reads i (subst (λ s. Contains s i) (more.supports rest masked.is_node) other)
  ];
}
