-- The output of an existential without a definition.
use Rattle.std.proofs.Common.{◌≡◌, ℕ, ◌+◌, ◌-◌, ◌<◌, Bool, List, [], length, slice_get, Some, Result, Ok, Err, OnOk, sym, subst, inl, inr, arith}
use Rattle.std.specs.List.{All}
use Rattle.std.proofs.lemmas.Option.{slice_get_within}
use Rattle.list_laws.proofs.Members.{place_of}
use Rattle.dq_lits.specs.Formula.{Existential, Dqbf, existential_of}
use Rattle.dq_lits.proofs.FormulaVariables.{find_sound}
use Rattle.dq_formula.specs.Prefix.{IsLawful}
use Rattle.dq_formula.specs.declared.rules.Rule.{Rule}
use Rattle.aig_graph.specs.Graph.{AigGraph, IsNode}
use Rattle.aig_graph.specs.Made.{Extends}
use Rattle.aig_graph.specs.declared.nodes.Node.{Node}
use Rattle.expansion.specs.Table.{PointBits, ArePoints}
use Rattle.candidate_functions.specs.Pairs.{universal_places, IsPatched, IsByRules, IsCandidate}
use Rattle.row_pairs.specs.Pairs.{ArePairRounds}
use Rattle.candidate_functions.specs.Differing.{HasKnownPoint, HasOwnPoint, IsKnownRightly, HasPairOf, ArePatches, IsCovered}
use Rattle.candidate_functions.specs.declared.cubes.Pair.{Pair}
use Rattle.candidate_functions.proofs.AgreeingNodes.{AtExistential, same_point, patched_is_candidate}
use Rattle.definition_order.proofs.Declared.{sees_universals}
use Rattle.candidate_functions.proofs.LargerGraphs.{rule_node_stays}
use Rattle.candidate_functions.proofs.KnownPoints.{known_stays}
use Rattle.row_pairs.proofs.PairRounds.{agrees-refl}

at_existential : (f : Dqbf) → IsLawful f → (rows : List (List Bool)) (points : PointBits) →
    All (λ row. length row ≡ length f.universals) rows → ArePoints f rows points
    → (v : ℕ) (y : Existential) → existential_of f v ≡ Some y → AtExistential f rows points y
at_existential f lawful rows points whole are v y found =
    let own = place_of f.existentials y (find_sound v f.existentials y found).0 in
    record {
      among = sees_universals f lawful v y found;
      whole = whole;
      same = same_point f rows points are own.0 y own.1;
    }

nothing_patched : (g : AigGraph) (points : PointBits) (v : ℕ) (node : Node) → IsNode g node →
    IsPatched g g points v [] node node
nothing_patched g points v node is = search arith

-- a node that is known to have all points
pub right_is_candidate : (f : Dqbf) → IsLawful f → (rows : List (List Bool)) (points : PointBits) →
    All (λ row. length row ≡ length f.universals) rows → ArePoints f rows points
    → (rules : List Rule) (v place : ℕ) (y : Existential) → existential_of f v ≡ Some y →
    (g : AigGraph) (node : Node) (values : List (List Bool)) → IsByRules f g rules y node
    → IsKnownRightly rows points g v place node values → ((k : ℕ) → k < length rows →
    HasKnownPoint values points v place (k + 1)) → IsCandidate f rows points rules g y node
right_is_candidate f lawful rows points whole are rules v place y found g node values by right all =
    let own = (find_sound v f.existentials y found).1 in
    patched_is_candidate f rows points rules y g g [] node node lawful
    (at_existential f lawful rows points whole are v y found) (λ k d below. absurd (omega (arith, below))) by
    (λ k row at. record {
      place = k;
      first = row;
      at = at;
      same = agrees-refl row (universal_places f y.sees);
      state = inr (subst (λ w. HasOwnPoint rows points g w node (k + 1)) (sym own)
          (right (k + 1) (all k (slice_get_within rows k row at))));
    }) (nothing_patched g points y.variable node by.is_node)

pub undefined_is_candidate : (f : Dqbf) → IsLawful f → (rows : List (List Bool)) (points : PointBits) →
    All (λ row. length row ≡ length f.universals) rows → ArePoints f rows points
    → (rules : List Rule) (v place : ℕ) (y : Existential) → existential_of f v ≡ Some y → (old mid new : AigGraph) →
    Extends old mid
    → (rounds : List ℕ) → ArePairRounds rows (universal_places f y.sees) (length rows) rounds →
    (pairs : List Pair) (values : List (List Bool)) (other node : Node) → IsByRules f old rules y other
    → IsKnownRightly rows points old v place other values → ArePatches rows values points mid
    (universal_places f y.sees) v place rounds pairs
    → IsPatched mid new points v pairs other node → IsCandidate f rows points rules new y node
undefined_is_candidate f lawful rows points whole are rules v place y found old mid new grown rounds all pairs values
    other node by right patches patched =
    let own = (find_sound v f.existentials y found).1 in
    patched_is_candidate f rows points rules y mid new pairs other node lawful
    (at_existential f lawful rows points whole are v y found) patches.each
    (rule_node_stays old mid grown f rules y other by) (λ k row at. covered k row at)
    (subst (λ w. IsPatched mid new points w pairs other node) (sym own) patched)
  where
    covered : (k : ℕ) (row : List Bool) → slice_get rows k ≡ Some row →
        IsCovered rows points mid (universal_places f y.sees) y.variable other pairs row
    covered k row at =
        let own = (find_sound v f.existentials y found).1 in
        let has = all.complete k row (slice_get_within rows k row at) at in
        let from_one = has.from_one in
        let back : has.round ≡ (has.round - 1) + 1 = omega (arith, from_one) in
        record {
          place = has.round - 1;
          first = has.first;
          at = has.at;
          same = has.same;
          state = elim (patches.others has.round has.among) [
            | inl pair ↦ inl (subst (HasPairOf pairs) back pair)
            | inr known ↦ inr (subst (HasOwnPoint rows points mid y.variable other) back
                (subst (λ w. HasOwnPoint rows points mid w other has.round) (sym own)
                (known_stays old mid grown rows points v place other values by.is_node right has.round known)))
          ];
        }

pub on_ok : {T E : Type 0} (r : Result T E) (P : Type 0) → P → OnOk r P
on_ok (Ok x) P p = p
on_ok (Err e) P p = tt
