-- The pairs at which a node is patched, and the cubes of a class.
use Rattle.std.proofs.Common.{◌≡◌, ℕ, ◌+◌, ◌-◌, ◌<◌, ◌≤◌, Bool, List, [], ◌∷◌, ◌++◌, length, take, get_or, set, slice_get, slice_index, Option, None, Some, sym, ◌∙◌, ap, subst, inl, inr, arith}
use Rattle.std.specs.List.{All, Contains}
use Rattle.std.proofs.lemmas.Bool.{cases_eq}
use Rattle.std.proofs.lemmas.List.{take_more, get_or-set_same, get_or-set_other, length-set, get_or_default}
use Rattle.std.proofs.lemmas.List.Elements.{All-push, All-weaker, Contains-append_left, Contains-push}
use Rattle.std.proofs.lemmas.Option.{slice_get_within, get_or_from_slice_get, slice_get-get_or}
use Rattle.list_laws.proofs.Members.{last_or_inside}
use Rattle.aig_graph.specs.Graph.{AigGraph, IsNode}
use Rattle.aig_graph.specs.Made.{Extends}
use Rattle.aig_graph.specs.declared.nodes.Node.{Node}
use Rattle.expansion.specs.Table.{PointBits}
use Rattle.candidate_functions.specs.Differing.{HasKnownPoint, HasPairOf, ArePatches}
use Rattle.candidate_functions.specs.Pairs.{IsRowCube, IsPair, AreRounds, IsPlacedClass}
use Rattle.row_pairs.specs.Pairs.{ArePairRounds}
use Rattle.candidate_functions.specs.declared.classes.Class.{Class}
use Rattle.candidate_functions.specs.declared.cubes.Pair.{Pair}
use Rattle.candidate_functions.proofs.LargerGraphs.{pairs_stay, placed_stays}

-- the cube of a round's row
pub own_cube : (rows : List (List Bool)) (g : AigGraph) (places rounds : List ℕ) (i round : ℕ) (first row : List Bool)
    (cube : Node) → i < length rounds → round ≡ get_or rounds i round
    → slice_get rows (round - 1) ≡ Some first → slice_get rows (slice_index rounds i - 1) ≡ Some row →
    IsRowCube g places first cube → IsRowCube g places row cube
own_cube rows g places rounds i round first row cube below is at there own = search (arith, get_or_default)

-- a cube at a place of a class
pub cube_put : (rows : List (List Bool)) (old new : AigGraph) (places : List ℕ) (c d : Class) (i : ℕ) (cube : Node) →
    Extends old new → i < length c.rounds.items → IsPlacedClass rows old places c
    → d.rounds ≡ c.rounds → d.cubes.items ≡ set c.cubes.items i (Some cube)
    → ((row : List Bool) → slice_get rows (slice_index c.rounds.items i - 1) ≡ Some row → IsRowCube new places row cube)
    → IsPlacedClass rows new places d
cube_put rows old new places c d i cube grown below is same put own =
    let stays = placed_stays old new grown rows places c is in
    let rounds_are : d.rounds.items ≡ c.rounds.items = ap (λ v. v.items) same in
    let long = is.one_each in
    let none : Option Node = None in
    record {
      rounds = subst (ArePairRounds rows places (length rows)) (sym rounds_are) is.rounds;
      one_each = ap length put ∙ length-set c.cubes.items i (Some cube) ∙ long ∙ ap length (sym rounds_are);
      cubes = λ j n row at there.
          let there_c : slice_get rows (slice_index c.rounds.items j - 1) ≡ Some row =
          subst (λ rs. slice_get rows (slice_index rs j - 1) ≡ Some row) rounds_are there in
          let at_c : slice_get (set c.cubes.items i (Some cube)) j ≡ Some (Some n) =
          subst (λ cs. slice_get cs j ≡ Some (Some n)) put at in
          elim (cases_eq j i) [
            | inl here ↦ (
                let is_put : Some n ≡ Some cube = sym (get_or_from_slice_get (set c.cubes.items i (Some cube)) j
                (Some n) none at_c) ∙ ap (λ k. get_or (set c.cubes.items i (Some cube)) k none) here
                ∙ get_or-set_same c.cubes.items i (Some cube) none (omega (arith, long)) in
                let one : cube ≡ n = cc in
                subst (IsRowCube new places row) one (own row
                (subst (λ k. slice_get rows (slice_index c.rounds.items k - 1) ≡ Some row) here there_c)))
            | inr other ↦ stays.cubes j n row
                (slice_get-get_or c.cubes.items j none (let w =
                slice_get_within (set c.cubes.items i (Some cube)) j (Some n) at_c in let l =
                length-set c.cubes.items i (Some cube) in omega (arith, w, l))
                ∙ ap Some (sym (get_or-set_other c.cubes.items i j (Some cube) none other) ∙ get_or_from_slice_get
                (set c.cubes.items i (Some cube)) j (Some n) none at_c))
                there_c
          ];
    }

-- the pair of the round at a place
pub round_pair : (rows : List (List Bool)) (g : AigGraph) (places rounds : List ℕ) (i round : ℕ) (cube : Node) →
    i < length rounds → round ≡ get_or rounds i round → All (λ r. (1 ≤ r) × (r ≤ length rows)) rounds
    → ((row : List Bool) → slice_get rows (slice_index rounds i - 1) ≡ Some row → IsRowCube g places row cube) →
    IsPair rows g places (record { round = round; cube = cube })
round_pair rows g places rounds i round cube below is each own =
    let range = subst (λ r. (1 ≤ r) × (r ≤ length rows)) (sym is) (each i round below) in
    let from_one = range.0 in
    let last = range.1 in
    let none : List Bool = [] in
    let row = get_or rows (round - 1) none in
    let at : slice_get rows (round - 1) ≡ Some row = slice_get-get_or rows (round - 1) none
    (omega (arith, from_one, last)) in
    let there : slice_index rounds i ≡ round = get_or_default rounds i 0 round below ∙ sym is in
    record {
      place = round - 1;
      row = row;
      round = omega (arith, from_one);
      at = at;
      cube = own row (subst (λ r. slice_get rows (r - 1) ≡ Some row) (sym there) at);
    }

module _ (rows values : List (List Bool)) (points : PointBits) (places : List ℕ) (y place : ℕ) (rounds : List ℕ)
    (i d : ℕ) (below : i < length rounds) where
  abbrev here : ℕ
  here = get_or rounds i d

  taken : take (i + 1) rounds ≡ take i rounds ++ here ∷ []
  taken = take_more rounds i d below

  -- the node's point is known there
  pub one_known : (g : AigGraph) (pairs : List Pair) → ArePatches rows values points g places y place
      (take i rounds) pairs → HasKnownPoint values points y place here
      → ArePatches rows values points g places y place (take (i + 1) rounds) pairs
  one_known g pairs are known = record {
    each = are.each;
    others = λ r has. elim (last_or_inside (take i rounds) here r (subst (λ rs. Contains rs r) taken has)) [
      | inl before ↦ are.others r before
      | inr own ↦ inr (subst (HasKnownPoint values points y place) own known)
    ];
  }

  more : (pairs : List Pair) (p : Pair) (r : ℕ) → HasPairOf pairs r → HasPairOf (pairs ++ p ∷ []) r
  more pairs p r has = record {
    pair = has.pair;
    among = Contains-append_left pairs (p ∷ []) has.pair has.among;
    is =
        has.is;
  }

  -- there is a pair more
  pub one_patched : (old new : AigGraph) (pairs : List Pair) (p : Pair) → Extends old new →
      ArePatches rows values points old places y place (take i rounds) pairs → p.round ≡ here
      → IsPair rows new places p → ArePatches rows values points new places y place (take (i + 1) rounds)
      (pairs ++ p ∷ [])
  one_patched old new pairs p grown are round is = record {
    each = All-push (IsPair rows new places) pairs p (pairs_stay old new grown rows places pairs are.each) is;
    others = λ r has. elim (last_or_inside (take i rounds) here r (subst (λ rs. Contains rs r) taken has)) [
      | inl before ↦ (elim (are.others r before) [
        | inl pair ↦ inl (more pairs p r pair)
        | inr known ↦ inr known
      ])
      | inr own ↦ inl (record { pair = p; among = Contains-push pairs p; is = round ∙ own })
    ];
  }

-- the rounds and cubes of pairs
pub pair_rounds_within : (rows : List (List Bool)) (g : AigGraph) (places : List ℕ) (pairs : List Pair) →
    All (IsPair rows g places) pairs → AreRounds (length rows) pairs
pair_rounds_within rows g places pairs each = search (arith, All-weaker, slice_get_within)

pub pair_cubes : (rows : List (List Bool)) (g : AigGraph) (places : List ℕ) (pairs : List Pair) →
    All (IsPair rows g places) pairs → All (λ p. IsNode g p.cube) pairs
pair_cubes rows g places pairs each = search (arith, All-weaker)
