-- Places, sorted and without repeats, pick listed elements in the order of the list.
use Rattle.std.proofs.Common.{◌≡◌, ℕ, ◌+◌, ◌-◌, ◌≤◌, ◌<◌, Bool, true, false, ◌||◌, List, [], ◌∷◌, length, map, get_or, refl, ap, sym, subst, ◌∙◌, arith, ◌&&◌, eqb, filter, true≢false, zero-add}
use native.Mathlib.Numerals.{unary_clauses}
use Rattle.std.proofs.lemmas.Bool.{eqb-true}
use Rattle.std.proofs.lemmas.List.Elements.{All-head, All-tail, All-map, Contains-get_or, filter_agree}
use Rattle.std.proofs.lemmas.List.Filters.{All-dedup}
use Rattle.std.proofs.lemmas.List.Sorted.{list_any-IsPermutation, All-permutation}
use Rattle.std.proofs.lemmas.Map.Keys.{IsStrictlyIncreasing-dedup}
use Rattle.std.proofs.lemmas.Map.Views.{any-filter_same}
use Rattle.std.specs.List.{list_any, All, IsDistinct, dedup, dedup_from}
use Rattle.std.specs.List.Sorted.{IsStrictlyIncreasing, IsPermutation, IsSorted}
use Rattle.std.specs.Ordering.{nat_cmp}
use Rattle.dq_formula.proofs.Entries.{list_any-map}
use Rattle.dq_formula.proofs.Places.{place, has, has-contains, Rise, at, at-filter}

-- numbers that rise strictly, from their first one on
pub Rise-from_increasing : (low high : ℕ) (ps : List ℕ) → IsStrictlyIncreasing ps →
    All (λ p. (low ≤ p) × (p < high)) ps → Rise low high ps
Rise-from_increasing low high [] up a = tt
Rise-from_increasing low high (p ∷ []) up a = let h = a 0 0 (omega arith) in (h.0, h.1, tt)
Rise-from_increasing low high (p ∷ q ∷ ps) up a =
    let h = a 0 0 (omega arith) in
    let rest = Rise-from_increasing low high (q ∷ ps) (λ k l. simp unary_clauses
    (simp unary_clauses at (up (k + 1) (omega arith)))) (All-tail (λ p. (low ≤ p) × (p < high)) p (q ∷ ps) a) in
    let step : p < q = up 0 (omega arith) in
    (h.0, h.1, (omega (arith, step), rest.1, rest.2))

-- dropping repeats changes no test
dedup_from-any : (p : ℕ → Bool) (k : ℕ) (xs : List ℕ) → list_any p (dedup_from eqb k xs) ≡ (p k || list_any p xs)
dedup_from-any p k [] = refl
dedup_from-any p k (x ∷ xs) = search (arith, (dedup_from-any p k xs), (dedup_from-any p x xs), eqb-true, true≢false)

pub dedup-any : (p : ℕ → Bool) (xs : List ℕ) → list_any p (dedup eqb xs) ≡ list_any p xs
dedup-any p [] = refl
dedup-any p (x ∷ xs) = dedup_from-any p x xs

-- tests that agree on each element
pub list_any-agree : {X : Type 0} (p q : X → Bool) (xs : List X) → All (λ x. p x ≡ q x) xs →
    list_any p xs ≡ list_any q xs
list_any-agree p q [] h = refl
list_any-agree p q (x ∷ xs) h = rw (
  All-head (λ x. p x ≡ q x) x xs h,
  list_any-agree p q xs (All-tail (λ x. p x ≡ q x) x xs h),
) refl

sub-zero : (n : ℕ) → n - 0 ≡ n
sub-zero n = omega arith

-- among the universals
abbrev pub AllAmong : List ℕ → List ℕ → Type 0
AllAmong us xs = All (λ x. has us x ≡ true) xs

pub place-below : (us : List ℕ) (x : ℕ) → has us x ≡ true → place us x < length us
place-below [] x h = absurd (true≢false (sym h))
place-below (u ∷ us) x h = search (arith, (place-below us x))

pub get_or-place : (us : List ℕ) (x d : ℕ) → has us x ≡ true → get_or us (place us x) d ≡ x
get_or-place [] x d h = absurd (true≢false (sym h))
get_or-place (u ∷ us) x d h = search (arith, (get_or-place us x d), eqb-true)

-- the places of listed elements, sorted and without repeats, are those of the elements that are listed
pub in_order : (us xs sorted : List ℕ) → IsDistinct eqb us → AllAmong us xs → IsPermutation (map (place us) xs) sorted →
    IsSorted nat_cmp sorted
    → map (λ p. get_or us p 0) (dedup eqb sorted) ≡ filter (has xs) us
in_order us xs sorted distinct among moved order =
    let ps = dedup eqb sorted in
    let below : All (λ p. (0 ≤ p) × (p < length us)) ps =
    All-dedup eqb (λ p. (0 ≤ p) × (p < length us)) sorted (All-permutation (λ p. (0 ≤ p) × (p < length us))
    (map (place us) xs) sorted moved
    (All-map (λ p. (0 ≤ p) × (p < length us)) (place us) xs (λ k d l.
    (omega arith, place-below us (get_or xs k d) (among k d l))))) in
    let rise : Rise 0 (0 + length us) ps = rw zero-add (Rise-from_increasing 0 (length us) ps
    (IsStrictlyIncreasing-dedup sorted order) below) in
    let picked : at us 0 ps ≡ filter (has (at us 0 ps)) us = at-filter us 0 ps distinct rise in
    let plain : at us 0 ps ≡ map (λ p. get_or us p 0) ps = at-zero us ps in
    let same : (u : ℕ) → has (at us 0 ps) u ≡ has xs u = λ u.
    list_any-map (λ x. eqb x u) (λ p. get_or us (p - 0) 0) ps
    ∙ dedup-any (λ p. eqb (get_or us (p - 0) 0) u) sorted
    ∙ sym (list_any-IsPermutation (λ p. eqb (get_or us (p - 0) 0) u) (map (place us) xs) sorted moved)
    ∙ list_any-map (λ p. eqb (get_or us (p - 0) 0) u) (place us) xs
    ∙ list_any-agree (λ x. eqb (get_or us (place us x - 0) 0) u) (λ x. eqb x u) xs
    (λ k d l. ap (λ n. eqb n u) (rw sub-zero (get_or-place us (get_or xs k d) 0 (among k d l)))) in
    sym plain ∙ picked ∙ filter_agree (has (at us 0 ps)) (has xs) same us
  where
    at-zero : (us ps : List ℕ) → at us 0 ps ≡ map (λ p. get_or us p 0) ps
    at-zero us [] = refl
    at-zero us (p ∷ ps) = rw (sub-zero, at-zero us ps) refl

-- at their own places stand the elements
at-places : (us xs : List ℕ) → AllAmong us xs → at us 0 (map (place us) xs) ≡ xs
at-places us [] among = refl
at-places us (x ∷ xs) among = rw (
  sub-zero,
  get_or-place us x 0 (All-head (λ x. has us x ≡ true) x xs among),
  at-places us xs (All-tail (λ x. has us x ≡ true) x xs among),
) refl

pub rises_behind : (us behind rest : List ℕ) (x p least high : ℕ) → rest ≡ x ∷ behind → p ≡ place us x → least ≤ p →
    p < high → Rise (p + 1) high (map (place us) behind) → Rise least high (map (place us) rest)
rises_behind us behind rest x p least high is place_is above below rise =
    subst (λ xs. Rise least high (map (place us) xs)) (sym is)
    (subst (λ k. (least ≤ k) × (k < high) × Rise (k + 1) high (map (place us) behind)) place_is (above, below, rise))

pub none_rise : (us rest : List ℕ) (least high : ℕ) → length rest ≡ 0 → Rise least high (map (place us) rest)
none_rise us [] least high none = tt
none_rise us (x ∷ rest) least high none = absurd (omega (arith, none))

-- elements at rising places are those that are listed, in order
pub rising_listed : (us xs : List ℕ) → IsDistinct eqb us → AllAmong us xs → Rise 0 (length us) (map (place us) xs) →
    filter (has xs) us ≡ xs
rising_listed us xs distinct among rise =
    let are = at-places us xs among in
    let picked = at-filter us 0 (map (place us) xs) distinct (rw zero-add rise) in
    sym (sym are ∙ picked ∙ ap (λ ys. filter (has ys) us) are)

-- and they are places of the list
pub places-below : (us xs sorted : List ℕ) → AllAmong us xs → IsPermutation (map (place us) xs) sorted →
    All (λ p. p < length us) (dedup eqb sorted)
places-below us xs sorted among moved =
    All-dedup eqb (λ p. p < length us) sorted (All-permutation (λ p. p < length us) (map (place us) xs) sorted moved
    (All-map (λ p. p < length us) (place us) xs (λ k d l. place-below us (get_or xs k d) (among k d l))))

filter-agree : (p q : ℕ → Bool) (us : List ℕ) → All (λ u. p u ≡ q u) us → filter p us ≡ filter q us
filter-agree p q [] h = refl
filter-agree p q (u ∷ us) h = rw (
  All-head (λ u. p u ≡ q u) u us h,
  filter-agree p q us (All-tail (λ u. p u ≡ q u) u us h),
) refl

-- a filter keeps its members
pub filter-members : (p : ℕ → Bool) (us : List ℕ) → filter p us ≡ filter (has (filter p us)) us
filter-members p us = filter-agree p (has (filter p us)) us (λ k d l.
    let u = get_or us k d in
    let member : has us u ≡ true = has-contains us u (Contains-get_or us k d l) in
    let kept : has (filter p us) u ≡ (p u && has us u) = search (arith, any-filter_same, eqb-true) in
    sym (kept ∙ rw member (and-true (p u))))
  where
    and-true : (b : Bool) → (b && true) ≡ b
    and-true true = refl
    and-true false = refl
