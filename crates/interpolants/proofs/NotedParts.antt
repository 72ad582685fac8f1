-- Partial interpolants, noted id by id.
use Rattle.std.proofs.Common.{◌≡◌, ℕ, ◌+◌, ◌==◌, ◌<◌, ◌≤◌, Bool, cond, inl, inr, List, length, get_or, Some, Contains, ◌∙◌, ap, subst, arith}
use Rattle.std.specs.List.{AllPairs}
use Rattle.std.proofs.lemmas.List.{get_or_default}
use Rattle.std.proofs.lemmas.List.Kept.{AllPairs-from_increasing}
use Rattle.std.proofs.lemmas.Bool.{cases_lt, eq-eqb, ne_eqb}
use Rattle.hint_log.specs.Reached.{Reaches, AreReached}
use Rattle.aig_graph.specs.Graph.{AigGraph}
use Rattle.aig_graph.specs.Made.{Extends}
use Rattle.aig_graph.specs.declared.nodes.Node.{Node}
use Rattle.aig_graph.proofs.LargerGraphs.{grown_twice}
use Rattle.interpolants.specs.Interpolant.{Partition, node_of, AreNodes}
use Rattle.interpolants.specs.Parts.{IsPartOf, HasPart, AreNoted}
use Rattle.interpolants.proofs.PartialInterpolants.{part_kept, nodes_after}

-- those of the first ids
pub record AreSomeNoted (q : Partition) (local : ℕ → Bool) (initial g : AigGraph) (ids : List ℕ) (i : ℕ)
    (notes : List (ℕ × Node)) : Type 0 where
  pub extends : Extends initial g
  pub parts : (k : ℕ) → k < i → k < length ids → HasPart q local g notes (get_or ids k 0)

-- each id is below the later ones
rises : (ids : List ℕ) → AllPairs (λ x y. x < y) ids → (i k : ℕ) → i < k → k < length ids →
    get_or ids i 0 < get_or ids k 0
rises ids up i k less lt = up i k 0 less lt

stands_before : (ids : List ℕ) → AllPairs (λ x y. x < y) ids → (i k : ℕ) → i < length ids → k < length ids →
    get_or ids k 0 < get_or ids i 0 → k < i
stands_before ids up i k i_lt k_lt less = search (arith, cases_lt)

place_of : (ids : List ℕ) (at : ℕ) → Contains ids at → (k : ℕ) × (k < length ids) × (get_or ids k 0 ≡ at)
place_of ids at (k, lt, is) = (k, lt, get_or_default ids k 0 at lt ∙ is)

pub noted_before : (q : Partition) (local : ℕ → Bool) (initial g : AigGraph) (ids : List ℕ) (i : ℕ)
    (notes : List (ℕ × Node)) → AreReached q.entries q.id ids →
    i < length ids → AreSomeNoted q local initial g ids i notes → AreNoted q local g notes (get_or ids i 0)
noted_before q local initial g ids i notes reached lt noted at reaches less =
    let p = place_of ids at (reached.complete at reaches) in
    let here = p.2 in
    let before = stands_before ids (AllPairs-from_increasing ids reached.ascending) i p.0 lt p.1
    (omega (arith, here, less)) in
    subst (HasPart q local g notes) here (noted.parts p.0 before p.1)

part_kept_of : (q : Partition) (local : ℕ → Bool) (old new : AigGraph) (at : ℕ) (n : Node) → Extends old new →
    AreNodes q.shared old → IsPartOf q local old at n → IsPartOf q local new at n
part_kept_of q local old new at n e nodes part clause found = search (arith, part_kept)

pub noted_more : (q : Partition) (local : ℕ → Bool) (initial g new : AigGraph) (ids : List ℕ) (i : ℕ)
    (notes more : List (ℕ × Node)) (node : Node) →
    AreReached q.entries q.id ids → AreNodes q.shared initial → i < length ids →
    AreSomeNoted q local initial g ids i notes → Extends g new →
    IsPartOf q local new (get_or ids i 0) node → ((n : ℕ) → node_of more n ≡ cond (get_or ids i 0 == n) (Some node)
    (node_of notes n)) →
    AreSomeNoted q local initial new ids (i + 1) more
noted_more q local initial g new ids i notes more node reached nodes lt noted e part put =
    let now = nodes_after q.shared initial g noted.extends nodes in
    record {
      extends = grown_twice initial g new noted.extends e;
      parts = λ k less k_lt.
          elim (cases_lt k i) [
            | inl before ↦
                let at = get_or ids k 0 in
                let old = noted.parts k before k_lt in
                let up = rises ids (AllPairs-from_increasing ids reached.ascending) k i before lt in
                record {
                  node = old.node;
                  noted = put at ∙ ap (λ b. cond b (Some node) (node_of notes at))
                      (ne_eqb (get_or ids i 0) at (λ same. omega (arith, up, same))) ∙ old.noted;
                  part = part_kept_of q local g new at old.node e now old.part;
                }
            | inr after ↦
                let same : i ≡ k = omega (arith, after, less) in
                subst (λ n. HasPart q local new more (get_or ids n 0)) same
                (record {
                  node = node;
                  noted = search (arith, eq-eqb);
                  part = part;
                })
          ];
    }

pub all_noted : (q : Partition) (local : ℕ → Bool) (initial g : AigGraph) (ids : List ℕ) (i : ℕ)
    (notes : List (ℕ × Node)) → AreReached q.entries q.id ids → length ids ≤ i →
    AreSomeNoted q local initial g ids i notes → (at : ℕ) → Reaches q.entries q.id at → HasPart q local g notes at
all_noted q local initial g ids i notes reached all noted at reaches =
    let p = place_of ids at (reached.complete at reaches) in
    let lt = p.1 in
    subst (HasPart q local g notes) p.2 (noted.parts p.0 (omega (arith, lt, all)) lt)
