-- A line's hinted clauses, resolved the last one first.
use Rattle.std.proofs.Common.{◌≡◌, ℕ, ◌≤◌, ◌<◌, Bool, true, false, not, ◌||◌, ◌&&◌, inl, inr, List, [], ◌∷◌, map, Option, Some, IsSome, Contains, sym, ◌∙◌, ap, subst, arith}
use Rattle.std.proofs.lemmas.Bool.{cases_Bool}
use Rattle.dq_lits.specs.Literal.{Assignment, Literal, variable_of, is_negative, positive, negative, opposite, literal_true}
use Rattle.dq_lits.specs.Derivation.{holds}
use Rattle.dq_lits.proofs.SignedLiterals.{opposite-opposite}
use Rattle.dq_lits.proofs.HeldLiterals.{holds-opposites}
use Rattle.hint_log.specs.Entries.{clause_at, hints_at}
use Rattle.hint_log.specs.Reached.{Reaches, by_hint}
use Rattle.aig_graph.specs.Graph.{AigGraph, IsNode}
use Rattle.aig_graph.specs.Made.{Extends, IsMade}
use Rattle.interpolants.specs.Interpolant.{Partition, node_of, AreNodes}
use Rattle.interpolants.specs.Parts.{IsPart, IsPartOf, HasPart, HaveParts, AreNoted}
use Rattle.interpolants.specs.Replay.{trues_of, AreLed, AreHinted, IsReplay}
use Rattle.aig_graph.specs.declared.nodes.Node.{Node}
use Rattle.aig_graph.proofs.LargerGraphs.{grown_twice, extends-refl}
use Rattle.interpolants.specs.declared.chains.Link.{Link}
use Rattle.interpolants.proofs.PartialInterpolants.{nodes_after, part_kept, part_weaker, resolve_local, resolve_other}
use Rattle.list_laws.proofs.Options.{some_same}

pub negated_value : (m : Assignment) (l : Literal) (a b : Bool) → is_negative l ≡ true → a ≡ m (variable_of l) →
    b ≡ not a → b ≡ literal_true m l
negated_value m (positive v) a b n h is = cc
negated_value m (negative v) a b n h is = is ∙ ap not h

pub record IsResolving (q : Partition) (local : ℕ → Bool) (first : List Literal) (hints : List ℕ) (initial g : AigGraph)
    (links : List Link) (node : Node) : Type 0 where
  pub extends : Extends initial g
  pub led : AreLed (clause_at q.entries) first links
  pub hinted : AreHinted hints links
  pub part : IsPart q local g (trues_of first links) node

some_node : (n r : Node) (o : Option Node) → o ≡ Some n → o ≡ Some r → n ≡ r
some_node n r o is here = let s : Some n ≡ Some r = sym is ∙ here in cc

-- the partial interpolant that was noted is the one that was found
pub noted_part : (q : Partition) (local : ℕ → Bool) (g : AigGraph) (notes : List (ℕ × Node)) (at : ℕ) (n : Node) →
    HasPart q local g notes at → node_of notes at ≡ Some n →
    IsPartOf q local g at n
noted_part q local g notes at n has is = search (arith, some_node)

pub is_noted : (q : Partition) (local : ℕ → Bool) (g : AigGraph) (notes : List (ℕ × Node)) (at : ℕ) →
    HasPart q local g notes at → IsSome (node_of notes at)
is_noted q local g notes at has = search arith

pub resolving_first : (q : Partition) (local : ℕ → Bool) (first : List Literal) (hints : List ℕ) (g : AigGraph)
    (links : List Link) (last : ℕ) (notes : List (ℕ × Node)) (node : Node) →
    HaveParts q local g notes hints → IsReplay (clause_at q.entries) first hints links last →
    node_of notes last ≡ Some node → IsResolving q local first hints g g links node
resolving_first q local first hints g links last notes node parts replay is =
    let conflict = replay.conflict in
    let there = noted_part q local g notes last node (parts last replay.last_hinted) is conflict.clause
    conflict.clause_is in
    record {
      extends = extends-refl g;
      led = replay.led;
      hinted = replay.hinted;
      part = part_weaker q local g (map opposite conflict.clause) (trues_of first links) node
          (λ l h. ap (holds (trues_of first links)) (sym (opposite-opposite l)) ∙ conflict.is_false (opposite l)
          (sym (holds-opposites conflict.clause l) ∙ h)) there;
    }

pub next_hinted : (hints : List ℕ) (links rest : List Link) (link : Link) → AreHinted hints links →
    links ≡ link ∷ rest → Contains hints link.hint
next_hinted hints links rest link hinted is = (subst (AreHinted hints) is hinted).0

pub next_is_node : (q : Partition) (local : ℕ → Bool) (first : List Literal) (hints : List ℕ) (notes : List (ℕ × Node))
    (initial g : AigGraph) (links rest : List Link) (link : Link)
    (node r : Node) → HaveParts q local initial notes hints → IsResolving q local first hints initial g links node →
    links ≡ link ∷ rest → node_of notes link.hint ≡ Some r →
    IsNode g r
next_is_node q local first hints notes initial g links rest link node r parts before is r_is =
    search (arith, (noted_part q local initial notes link.hint r))

pub resolving_next : (q : Partition) (local : ℕ → Bool) (first : List Literal) (hints : List ℕ)
    (notes : List (ℕ × Node)) (initial g new : AigGraph) (links rest : List Link) (link : Link)
    (node r made : Node) (b : Bool) → AreNodes q.shared initial → HaveParts q local initial notes hints →
    IsResolving q local first hints initial g links node →
    links ≡ link ∷ rest → b ≡ local (variable_of link.pivot) → node_of notes link.hint ≡ Some r → Extends g new →
    (b ≡ true → IsMade (λ x y. x || y) g new node r made) → (b ≡ false → IsMade (λ x y. x && y) g new node r made) →
    IsResolving q local first hints initial new rest made
resolving_next q local first hints notes initial g new links rest link node r made b nodes parts before is b_is r_is e
    or and =
    let led = subst (AreLed (clause_at q.entries) first) is before.led in
    let hinted = subst (AreHinted hints) is before.hinted in
    let P : List Link → Type 0 = λ ls. IsPart q local g (trues_of first ls) node in
    let here : IsPart q local g (link.pivot ∷ trues_of first rest) node = subst P is before.part in
    let leads = led.0 in
    let there =
    part_kept q local initial g (map opposite leads.clause) r before.extends nodes
    (noted_part q local initial notes link.hint r (parts link.hint hinted.0) r_is leads.clause leads.clause_is) in
    let now = nodes_after q.shared initial g before.extends nodes in
    record {
      extends = grown_twice initial g new before.extends e;
      led = led.1;
      hinted = hinted.1;
      part =
          elim (cases_Bool b) [
            | inl is_true ↦
                resolve_local q local g new (trues_of first rest) leads.clause link.pivot node r made now e here there
                leads.leads (sym b_is ∙ is_true) (or is_true)
            | inr is_false ↦
                resolve_other q local g new (trues_of first rest) leads.clause link.pivot node r made now e here there
                leads.leads (sym b_is ∙ is_false) (and is_false)
          ];
    }

-- where no link is left, the partial interpolant is that of the line
pub all_resolved : (q : Partition) (local : ℕ → Bool) (first : List Literal) (hints : List ℕ) (initial g : AigGraph)
    (links : List Link) (node : Node) →
    IsResolving q local first hints initial g links node → links ≡ [] → IsPart q local g first node
all_resolved q local first hints initial g links node resolved none = search arith

pub noted_hints : (q : Partition) (local : ℕ → Bool) (g : AigGraph) (notes : List (ℕ × Node)) (at : ℕ) (hints : List ℕ)
    → Reaches q.entries q.id at →
    hints_at q.entries at ≡ Some hints → ((hint : ℕ) → Contains hints hint → (1 ≤ hint) × (hint < at)) →
    AreNoted q local g notes at → HaveParts q local g notes hints
noted_hints q local g notes at hints reached found earlier noted hint has =
    noted hint (by_hint at hint hints reached found has) (earlier hint has).1

pub part_of_clause : (q : Partition) (local : ℕ → Bool) (g : AigGraph) (at : ℕ) (clause : List Literal) (n : Node) →
    clause_at q.entries at ≡ Some clause →
    IsPart q local g (map opposite clause) n → IsPartOf q local g at n
part_of_clause q local g at clause n found part other other_found = search (arith, some_same)
