-- Places of universals, and lists of numbers that ascend.
use Rattle.std.proofs.Common.{◌≡◌, ℕ, suc, ◌+◌, ◌≤◌, ◌<◌, ◌==◌, List, ◌++◌, length, map, take, get_or, slice_get, position, Some, None, Contains, eqb, sym, ◌∙◌, ap, subst, arith, ⊎_elim}
use Rattle.std.proofs.Math.Seq.{take-suc}
use Rattle.std.proofs.lemmas.Bool.{cases_lt}
use Rattle.std.proofs.lemmas.List.{get_or_default, get_or_append_left, get_or-map, length-map, length-append}
use Rattle.std.proofs.lemmas.List.Elements.{All-push}
use Rattle.std.proofs.lemmas.List.Kept.{IsNonDecreasingBy-filter}
use Rattle.std.proofs.lemmas.Option.{slice_get-get_or, slice_get_within, get_or_from_slice_get}
use Rattle.std.specs.List.{All, IsDistinct}
use Rattle.std.specs.List.Sorted.{IsNonDecreasing, IsNonDecreasingBy}
use Rattle.std.proofs.lemmas.Map.Keys.{IsDistinct-from_apart}
use Rattle.dq_lits.specs.Formula.{Dqbf, Existential, HasLawfulPrefix}
use Rattle.dq_formula.proofs.Places.{place, ne-false, has, place-absent, place-rises, has-contains}
use Rattle.dq_formula.proofs.Search.{Kept}
use Rattle.dq_formula.proofs.Sorted.{place-below}

pub none_contained : (xs : List ℕ) (v : ℕ) → position (λ u. u == v) xs ≡ None → Contains xs v → ⊥
none_contained xs v none among =
    search (arith, place-absent, (place-below xs v (has-contains xs v among)), (has-contains xs v among))

-- the places of elements that stand in the order of a list ascend
pub places_ascend : (us vs : List ℕ) → IsDistinct eqb us → Kept us vs → IsNonDecreasing (map (place us) vs)
places_ascend us vs distinct kept i j d le l =
    let rises : IsNonDecreasingBy (place us) vs = subst (IsNonDecreasingBy (place us)) (sym kept)
    (IsNonDecreasingBy-filter (place us) (has vs) us (place-rises us distinct)) in
    let below : j < length vs = omega (arith, l, length-map vs (place us)) in
    let above : i < length vs = omega (arith, below, le) in
    rw (get_or-map (place us) vs i 0 d above, get_or-map (place us) vs j 0 d below) (rises i j 0 le below)

-- a walk through two lists that ascend: what was found, and what is passed
pub record IsWalked (xs ys : List ℕ) (i at : ℕ) : Type 0 where
  pub within : at ≤ length ys
  pub found : All (Contains ys) (take i xs)
  pub passed : (k j : ℕ) → k < at → i ≤ j → j < length xs → get_or ys k 0 < get_or xs j 0

-- the first place whose number isn't below the next one
pub record IsFirstFrom (ys : List ℕ) (from result x : ℕ) : Type 0 where
  pub start : from ≤ result
  pub end : result ≤ length ys
  pub below : (k : ℕ) → from ≤ k → k < result → get_or ys k 0 < x
  pub here : result < length ys → x ≤ get_or ys result 0

all_below : (xs ys : List ℕ) (i at result x : ℕ) → IsWalked xs ys i at → IsFirstFrom ys at result x → i < length xs →
    get_or xs i 0 ≡ x → (k : ℕ) → k < result → get_or ys k 0 < x
all_below xs ys i at result x walked first l is k less = ⊎_elim
    (λ a. subst (λ y. get_or ys k 0 < y) is (walked.passed k i a (omega arith) l)) (λ a. first.below k a less)
    (cases_lt k at)

pub walked_more : (xs ys : List ℕ) (i at result x : ℕ) → IsNonDecreasing xs → IsWalked xs ys i at →
    IsFirstFrom ys at result x → i < length xs → get_or xs i 0 ≡ x → slice_get ys result ≡ Some x
    → IsWalked xs ys (i + 1) result
walked_more xs ys i at result x ascend walked first l is stands = record {
  within = first.end;
  found =
      let e : i + 1 ≡ suc i = omega arith in
      let member : Contains ys x = search (arith, slice_get_within, get_or_from_slice_get) in
      rw (e, take-suc xs i 0 l, is) (All-push (Contains ys) (take i xs) x walked.found member);
  passed = search arith;
}

pub not_contained : (xs ys : List ℕ) (i at result x : ℕ) → IsNonDecreasing ys → IsWalked xs ys i at →
    IsFirstFrom ys at result x → i < length xs → get_or xs i 0 ≡ x
    → (slice_get ys result ≡ Some x → ⊥) → All (Contains ys) xs → ⊥
not_contained xs ys i at result x ascend walked first l is stands all =
    let m = subst (Contains ys) is (all i 0 l) in
    let same : get_or ys m.0 0 ≡ x = get_or_default ys m.0 0 x m.1 ∙ m.2 in
    ⊎_elim
    (λ less. let a = all_below xs ys i at result x walked first l is m.0 less in omega (arith, a, same))
    (λ ge.
    let within : result < length ys = omega (arith, ge, m.1) in
    let low = first.here within in
    let high : get_or ys result 0 ≤ get_or ys m.0 0 = ascend result m.0 0 ge m.1 in
    let e : get_or ys result 0 ≡ x = omega (arith, low, high, same) in
    stands (slice_get-get_or ys result 0 within ∙ ap Some e))
    (cases_lt m.0 result)

-- universals are declared once
pub distinct_universals : (f : Dqbf) → HasLawfulPrefix f → IsDistinct eqb f.universals
distinct_universals f prefix =
    let us = f.universals in
    let others = map (λ (y : Existential). y.variable) f.existentials in
    IsDistinct-from_apart eqb us (λ i j d less below.
    let low : i < length us = omega (arith, less, below) in
    let whole : j < length (us ++ others) = omega (arith, below, length-append us others) in
    ne-false (get_or us i d) (get_or us j d) (rw (
      get_or_append_left us others d i low,
      get_or_append_left us others d j below,
    ) at (prefix.declared_once i j d less whole)))
