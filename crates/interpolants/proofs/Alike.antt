-- A partition as it is kept: with the same set of assumptions, and the same nodes of shared variables.
use Rattle.std.proofs.Common.{◌≡◌, ℕ, Bool, true, inl, inr, List, IsSome, sym, ◌∙◌, subst, arith}
use Rattle.dq_lits.specs.Literal.{Assignment, Literal}
use Rattle.dq_lits.specs.Derivation.{AreSame}
use Rattle.hint_log.specs.Entries.{Entry}
use Rattle.aig_graph.specs.Graph.{AigGraph}
use Rattle.aig_graph.specs.declared.nodes.Node.{Node}
use Rattle.interpolants.specs.Interpolant.{Partition, partition, node_of, is_on_a, IsReachedGiven, SideHolds, IsOther, IsInSide, IsOfA, IsOfB, SharesAll, Agrees, IsInterpolant}
use Rattle.interpolants.proofs.Truth.{any_same, stands_same}

module _ (es : List Entry) (id : ℕ) (a_side assumed : List Literal) (shared kept : List (ℕ × Node))
    (same : AreSame assumed a_side)
    (nodes : (v : ℕ) → node_of kept v ≡ node_of shared v) where
  abbrev q : Partition
  q = partition es id a_side shared

  abbrev p : Partition
  p = partition es id assumed kept

  on_a : (c : List Literal) → is_on_a p c ≡ is_on_a q c
  on_a c = search (arith, any_same)

  given : (at : ℕ) (c : List Literal) → IsReachedGiven p at c → IsReachedGiven q at c
  given at c g = record { reached = g.reached; given = g.given; clause_is = g.clause_is }

  other : (l : Literal) → IsOther p l → IsOther q l
  other l o = record { clause = o.clause; clause_is = o.clause_is; negated = o.negated; not_a = sym (same l) ∙ o.not_a }

  side : (b : Bool) (v : ℕ) → IsInSide p b v → IsInSide q b v
  side b v s = record {
    at = s.at;
    clause = s.clause;
    given = given s.at s.clause s.given;
    on_side =
        sym (on_a s.clause) ∙ s.on_side;
    stands = s.stands;
  }

  of_a : (v : ℕ) → IsOfA p v → IsOfA q v
  of_a v of = elim of [
    | inl assumed_there ↦ inl (stands_same assumed a_side same v assumed_there)
    | inr s ↦
        inr (side true v s)
  ]

  of_b : (v : ℕ) → IsOfB p v → IsOfB q v
  of_b v of = elim of [ inl o ↦ inl (o.0, other o.0 o.1, o.2) | inr s ↦ inr (side _ v s) ]

  pub shares_kept : SharesAll q → SharesAll p
  shares_kept shares v a b = subst IsSome (sym (nodes v)) (shares v (of_a v a) (of_b v b))

  agrees : (g : AigGraph) (inputs : ℕ → Bool) (m : Assignment) → Agrees shared g inputs m → Agrees kept g inputs m
  agrees g inputs m h v n is = h v n (sym (nodes v) ∙ is)

  side_holds : (b : Bool) (m : Assignment) → SideHolds q b m → SideHolds p b m
  side_holds b m h at c g on = h at c (given at c g) (sym (on_a c) ∙ on)

  pub interpolant_kept : (g : AigGraph) (n : Node) → IsInterpolant p g n → IsInterpolant q g n
  interpolant_kept g n i = record {
    is_node = i.is_node;
    follows = λ inputs m h a assumed_true. i.follows inputs m (agrees g inputs m h) (side_holds true m a)
        (λ l is. assumed_true l (sym (same l) ∙ is));
    contradicts = λ inputs m h b others v. i.contradicts inputs m (agrees g inputs m h) (side_holds _ m b)
        (λ l o. others l (other l o)) v;
    reads = λ k has. let r = i.reads k has in record {
      variable = r.variable;
      node = r.node;
      node_is =
          sym (nodes r.variable) ∙ r.node_is;
      reads = r.reads;
    };
  }
