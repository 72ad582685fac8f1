-- The order of existentials, from sorted sizes and places.
use Rattle.std.proofs.Common.{◌≡◌, ◌≢◌, ℕ, ◌+◌, ◌<◌, ◌≤◌, eqb, Bool, true, false, List, [], ◌∷◌, ◌++◌, map, length, take, get_or, slice_get, slice_index, Some, IsTrue, refl, sym, ◌∙◌, ap, subst, inl, inr, ◌⊎◌, arith, get_or-take}
use Rattle.std.specs.Prelude.{◌↔◌}
use Rattle.std.specs.List.{All, AllPairs, Contains, range_with_len}
use Rattle.std.specs.Cmp.{IsStrictWeakOrder}
use Rattle.std.specs.List.Sorted.{IsPermutation, IsSortedBy}
use Rattle.std.specs.Ordering.{nat_cmp, is_lt, ordering_then}
use Rattle.std.proofs.lemmas.Bool.{false≢true, cases_lt, lt-ltb}
use Rattle.std.proofs.lemmas.Bool.Decides.{nat_tests, Decides-eqb}
use Rattle.std.proofs.lemmas.Map.Keys.{IsDistinct-IsPermutation}
use Rattle.std.proofs.lemmas.Map.Made.{AllPairs-from_IsDistinct, IsDistinct-from_AllPairs}
use Rattle.list_laws.proofs.Numbers.{below_or_here, eqb-flip}
use Rattle.std.proofs.lemmas.Cmp.{then_total, on_total, nat_cmp_total}
use Rattle.std.proofs.lemmas.List.{length-map, get_or-map, length-take}
use Rattle.std.proofs.lemmas.List.Elements.{All-map, Contains-push, Contains-append_left, Contains-append_cases}
use Rattle.std.proofs.lemmas.List.FromFn.{length-range_with_len, get_or-range_with_len}
use Rattle.std.proofs.lemmas.List.Sorted.{sorted_far, ranks_by, IsPermutation-map, IsPermutation-sym, All-permutation, Contains-permutation}
use Rattle.std.proofs.lemmas.Option.{slice_get_within, get_or_from_slice_get, slice_get-get_or}
use Rattle.dq_lits.specs.Formula.{Existential, Dqbf, existential_of}
use Rattle.dq_formula.specs.Prefix.{IsLawful, existential_variables}
use Rattle.definition_order.specs.Order.{existential_place, RanksBefore, ComesBefore, IsShared, AreInOrder, ArePlacesOfShared}
use Rattle.definition_order.specs.Sizes.{nobody, sized_place}
use Rattle.definition_order.proofs.Declared.{existential_at}

-- the existentials at the first places that a definition may read
pub record AreSharedSoFar (f : Dqbf) (ranks : List ℕ) (y : ℕ) (places : List ℕ) (count : ℕ) : Type 0 where
  pub each : (e : Existential) → existential_of f y ≡ Some e → (p : ℕ) →
      (Contains places p ↔ ((p < count) × ((z : Existential) ×
      (slice_get f.existentials p ≡ Some z) × IsShared f ranks e z)))

module _ (f : Dqbf) (ranks : List ℕ) (y : ℕ) (places : List ℕ) (count : ℕ) (shared : Bool)
    (before : AreSharedSoFar f ranks y places count) (existential_below : count < length f.existentials)
    (tells : (e z : Existential) → existential_of f y ≡ Some e → slice_get f.existentials count ≡ Some z →
    (IsTrue shared ↔ IsShared f ranks e z)) where
  abbrev IsOne : Existential → ℕ → Type 0
  IsOne e p = (z : Existential) × (slice_get f.existentials p ≡ Some z) × IsShared f ranks e z

  here : (z : Existential) × (slice_get f.existentials count ≡ Some z)
  here = (get_or f.existentials count nobody, slice_get-get_or f.existentials count nobody existential_below)

  pub one_shared : shared ≡ true → AreSharedSoFar f ranks y (places ++ count ∷ []) (count + 1)
  one_shared is = record { each = λ e known p. (forth e known p, back e known p) } where
    forth : (e : Existential) → existential_of f y ≡ Some e → (p : ℕ) → Contains (places ++ count ∷ []) p →
        (p < count + 1) × IsOne e p
    forth e known p has = elim (Contains-append_cases places (count ∷ []) p has) [
      | inl earlier ↦ (let o = (before.each e known p).0 earlier in (omega (arith, o.0), o.1))
      | inr last ↦ (
          let same = only last in
          (omega (arith, same), subst (IsOne e) same (here.0, here.1, (tells e here.0 known here.1).0 is)))
    ] where
      only : Contains (count ∷ []) p → count ≡ p
      only (k, b, at) = (let none : k ≡ 0 = omega arith in subst (λ n. get_or (count ∷ []) n p ≡ p) none at)

    back : (e : Existential) → existential_of f y ≡ Some e → (p : ℕ) → (p < count + 1) × IsOne e p →
        Contains (places ++ count ∷ []) p
    back e known p (below, one) = elim (below_or_here p count below) [
      | inl early ↦ Contains-append_left places (count ∷ []) p ((before.each e known p).1 (early, one))
      | inr at ↦ subst (Contains (places ++ count ∷ [])) (sym at) (Contains-push places count)
    ]

  pub none_shared : shared ≡ false → AreSharedSoFar f ranks y places (count + 1)
  none_shared isnt = record {
    each = λ e known p. (
      (λ has. let o = (before.each e known p).0 has in
          (omega (arith, o.0), o.1)),
      back e known p,
    );
  } where
    back : (e : Existential) → existential_of f y ≡ Some e → (p : ℕ) → (p < count + 1) × IsOne e p → Contains places p
    back e known p (below, (z, at, is)) = elim (below_or_here p count below) [
      | inl early ↦ (before.each e known p).1 (early, (z, at, is))
      | inr same ↦ search (arith, false≢true)
    ]

pub all_shared : (f : Dqbf) (ranks : List ℕ) (y : ℕ) (places : List ℕ) (count : ℕ) →
    AreSharedSoFar f ranks y places count → length f.existentials ≤ count → (e : Existential) →
    existential_of f y ≡ Some e → ArePlacesOfShared f ranks e places
all_shared f ranks y places count far past e known p = (
  (λ has. ((far.each e known p).0 has).1),
  (λ o. (far.each e known p).1 ((let below = slice_get_within f.existentials p o.0 o.1 in omega arith), o)),
)

-- an existential is shared where both tests say so
pub both_tell : (f : Dqbf) (ranks : List ℕ) (e z : Existential) (first second : Bool) → first ≡ true →
    (IsTrue first ↔ ComesBefore f ranks z e) → (IsTrue second ↔ All (Contains e.sees) z.sees) →
    (IsTrue second ↔ IsShared f ranks e z)
both_tell f ranks e z first second is before no_more = search arith

pub one_denies : (f : Dqbf) (ranks : List ℕ) (e z : Existential) (first : Bool) → first ≡ false →
    (IsTrue first ↔ ComesBefore f ranks z e) → (IsTrue first ↔ IsShared f ranks e z)
one_denies f ranks e z first isnt before = ((λ h. absurd (false≢true (sym isnt ∙ h))), (λ s. before.1 s.before))

abbrev Sized : Type 0
Sized = (ℕ × ℕ) × ℕ

abbrev by_size : Sized → Sized → Bool
by_size x y = is_lt (ordering_then (ordering_then (nat_cmp x.0.0 y.0.0) (nat_cmp x.0.1 y.0.1)) (nat_cmp x.1 y.1))

by_size_total : IsStrictWeakOrder by_size
by_size_total =
    ranks_by {R = λ (x y : Sized). ordering_then (ordering_then (nat_cmp x.0.0 y.0.0) (nat_cmp x.0.1 y.0.1))
    (nat_cmp x.1 y.1)}
    (then_total (then_total (on_total (λ (p : Sized). p.0.0) nat_cmp_total)
    (on_total (λ (p : Sized). p.0.1) nat_cmp_total)) (on_total (λ (p : Sized). p.1) nat_cmp_total))
    (λ (p : Sized). p)

less_first : (a b r s p q : ℕ) → (a < b) ⊎ ((a ≡ b) × ((r < s) ⊎ ((r ≡ s) × (p < q)))) →
    by_size ((a, r), p) ((b, s), q) ≡ true
less_first a b r s p q (inl less) = search (arith, lt-ltb)
less_first a b r s p q (inr (same, inl less)) = grind (arith, nat_tests)
less_first a b r s p q (inr (same, inr (tied, less))) = grind (arith, nat_tests)

places_of_sized : (f : Dqbf) (ranks ps : List ℕ) → map (λ (s : Sized). s.1) (map (sized_place f ranks) ps) ≡ ps
places_of_sized f ranks [] = refl
places_of_sized f ranks (p ∷ ps) = ap (λ qs. p ∷ qs) (places_of_sized f ranks ps)

range_apart : (n : ℕ) → AllPairs (λ p q. p ≢ q) (range_with_len 0 n)
range_apart n i j d before below same = search (arith, length-range_with_len, get_or-range_with_len)

in_range : (n p : ℕ) → Contains (range_with_len 0 n) p ↔ (p < n)
in_range n p = (forth, back) where
  forth : Contains (range_with_len 0 n) p → p < n
  forth (k, below, is) =
      let long = length-range_with_len 0 n in
      let there = get_or-range_with_len 0 n k p (omega arith) in
      omega arith

  back : p < n → Contains (range_with_len 0 n) p
  back below = (let long = length-range_with_len 0 n in (let there = get_or-range_with_len 0 n p p below in
      (p, omega arith, omega arith)))

module _ (f : Dqbf) (ranks : List ℕ) (lawful : IsLawful f) (sized sorted : List Sized) (places : List ℕ)
    (all : sized ≡ map (sized_place f ranks) (range_with_len 0 (length f.existentials)))
    (moved : IsPermutation sized sorted) (up : IsSortedBy by_size sorted)
    (are : places ≡ map (λ (s : Sized). s.1) sorted) where
  abbrev m : ℕ
  m = length f.existentials

  abbrev none : Sized
  none = ((0, 0), 0)

  range_moved : IsPermutation (range_with_len 0 m) places
  range_moved =
      subst (λ xs. IsPermutation xs places) (ap (map (λ (s : Sized). s.1)) all ∙ places_of_sized f ranks
      (range_with_len 0 m))
      (subst (IsPermutation (map (λ (s : Sized). s.1) sized)) (sym are)
      (IsPermutation-map (λ (s : Sized). s.1) sized sorted moved))

  distinct : AllPairs (λ p q. p ≢ q) places
  distinct = AllPairs-from_IsDistinct Decides-eqb places (IsDistinct-IsPermutation eqb eqb-flip
      (range_with_len 0 m) places range_moved (IsDistinct-from_AllPairs Decides-eqb (range_with_len 0 m)
      (range_apart m)))

  each : (p : ℕ) → (Contains places p ↔ (p < m))
  each p = (
    (λ has. (in_range m p).0 (Contains-permutation places (range_with_len 0 m) p
        (IsPermutation-sym (range_with_len 0 m) places range_moved) has)),
    (λ below. Contains-permutation (range_with_len 0 m) places p range_moved ((in_range m p).1 below)),
  )

  -- what is sorted are places behind their sizes
  sized_at : (k p : ℕ) → slice_get places k ≡ Some p → (k < length sorted) ×
      ((d : Sized) → get_or sorted k d ≡ sized_place f ranks p)
  sized_at k p at =
      let long : length places ≡ length sorted = ap length are ∙ length-map sorted (λ (s : Sized). s.1) in
      let below : k < length sorted = (let w = slice_get_within places k p at in omega arith) in (
        below,
        λ d.
            let own : get_or sorted k d ≡ sized_place f ranks (get_or sorted k d).1 =
            All-permutation (λ s. s ≡ sized_place f ranks s.1) sized sorted moved of_places k d below in
            let place : (get_or sorted k d).1 ≡ p = sym (get_or-map (λ (s : Sized). s.1) sorted k d p below) ∙ ap
            (λ ps. get_or ps k p) (sym are) ∙ get_or_from_slice_get places k p p at in
            own ∙ ap (sized_place f ranks) place,
      )
    where
      of_places : All (λ s. s ≡ sized_place f ranks s.1) sized
      of_places = subst (All (λ s. s ≡ sized_place f ranks s.1)) (sym all)
          (All-map (λ s. s ≡ sized_place f ranks s.1) (sized_place f ranks) (range_with_len 0 m) (λ i d below. refl))

  size_is : (p : ℕ) (y : Existential) → slice_get f.existentials p ≡ Some y →
      sized_place f ranks p ≡ ((length y.sees, slice_index ranks p), p)
  size_is p y at = ap (λ (z : Existential). ((length z.sees, slice_index ranks p), p))
      (get_or_from_slice_get f.existentials p y nobody at)

  earlier : (k p q : ℕ) (y z : Existential) → slice_get places k ≡ Some p → slice_get f.existentials p ≡ Some y →
      slice_get f.existentials q ≡ Some z → ComesBefore f ranks z y → Contains (take k places) q
  earlier k p q y z at own other before =
      let has = (each q).1 (slice_get_within f.existentials q z other) in
      by has (cases_lt has.0 k)
    where
      by : (has : Contains places q) → (has.0 < k) ⊎ (k ≤ has.0) → Contains (take k places) q
      by (j, below, is) (inl early) =
          (let long = length-take k places in (j, omega arith, get_or-take k places j q early ∙ is))
      by (j, below, is) (inr late) =
          let first = sized_at k p at in
          let second = sized_at j q (slice_get-get_or places j q below ∙ ap Some is) in
          let far = sorted_far by_size by_size_total sorted up k j none late second.0 in
          let these : by_size ((length z.sees, slice_index ranks q), q) ((length y.sees, slice_index ranks p), p)
          ≡ false =
          ap (λ s. by_size s ((length y.sees, slice_index ranks p), p)) (sym (second.1 none ∙ size_is q z other)) ∙ ap
          (by_size (get_or sorted j none)) (sym (first.1 none ∙ size_is p y own)) ∙ far in
          absurd (false≢true (sym these ∙ less_first (length z.sees) (length y.sees) (slice_index ranks q)
          (slice_index ranks p) q p (places_before before)))
        where
          places_before : ComesBefore f ranks z y → (length z.sees < length y.sees)
              ⊎ ((length z.sees ≡ length y.sees) × ((slice_index ranks q < slice_index ranks p) ⊎
              ((slice_index ranks q ≡ slice_index ranks p) × (q < p))))
          places_before (inl less) = inl less
          places_before (inr (same, ranked)) =
              inr (
                same,
                subst (λ r. RanksBefore ranks q r) (existential_at f lawful.prefix p y own)
                    (subst (λ r. RanksBefore ranks r (existential_place f y))
                    (existential_at f lawful.prefix q z other) ranked),
              )

  pub in_order : AreInOrder f ranks places
  in_order = record { distinct = distinct; each = each; earlier = earlier }

pub past : (f : Dqbf) (vs : List ℕ) (place : ℕ) → vs ≡ existential_variables f → length vs ≤ place →
    length f.existentials ≤ place
past f vs place are end = let long = length-map f.existentials (λ (z : Existential). z.variable) in let size =
    ap length are in omega arith
