-- A binary search by place.
use Rattle.std.proofs.Common.{◌≡◌, ℕ, ◌≤◌, true, List, length, get_or, refl, ap, sym, ◌∙◌, subst, arith, eqb, Result, Ok, Err, is_ok, filter, true≢false, Contains, IsTrue, ◌↔◌}
use Rattle.std.proofs.lemmas.Bool.{cases_lt}
use Rattle.std.proofs.lemmas.Bool.Decides.{nat_tests}
use Rattle.std.proofs.lemmas.List.Elements.{All-filter, All-contains_itself}
use Rattle.std.proofs.lemmas.List.Kept.{IsNonDecreasingBy-filter}
use Rattle.std.specs.List.{All, AllWithin, IsDistinct}
use Rattle.std.specs.List.Sorted.{IsNonDecreasingBy, IsBinarySearchResult, IsSearchInRange}
use Rattle.std.specs.Ordering.{nat_cmp, ordering_index}
use Rattle.std.specs.declared.cmp.Ordering.TheVariants.{Less, Equal, Greater}
use Rattle.list_laws.proofs.Numbers.{nat_cmp-same}
use Rattle.dq_formula.proofs.Places.{place, has, has-contains, place-rises}
use Rattle.dq_formula.proofs.Sorted.{get_or-place}

pub index-rises : (a b p : ℕ) → a ≤ b → ordering_index (nat_cmp a p) ≤ ordering_index (nat_cmp b p)
index-rises a b p le = grind (arith, nat_tests)

pub same-from_equal : (a b : ℕ) → nat_cmp a b ≡ Equal → a ≡ b
same-from_equal a b e = grind (arith, nat_tests)

-- the elements stand in the order of the list
abbrev pub Kept : List ℕ → List ℕ → Type 0
Kept us vs = vs ≡ filter (has vs) us

pub All-kept : (us vs : List ℕ) → Kept us vs → All (Contains us) vs
All-kept us vs kept = subst (All (Contains us)) (sym kept) (All-filter (has vs) (Contains us) us
    (All-contains_itself us))

-- a search by place, among elements in the order of the list, finds just its members
pub found : (us vs : List ℕ) (x : ℕ) (r : Result ℕ ℕ) → IsDistinct eqb us → Kept us vs → has us x ≡ true
    → IsSearchInRange r (length vs) → IsBinarySearchResult (λ y. nat_cmp (place us y) (place us x)) vs r →
    IsTrue (is_ok r) ↔ Contains vs x
found us vs x (Ok i) distinct kept among range result =
    let same : place us (get_or vs i x) ≡ place us x = same-from_equal (place us (get_or vs i x)) (place us x)
    (result x) in
    let member : has us (get_or vs i x) ≡ true = has-contains us (get_or vs i x) (All-kept us vs kept i x range) in
    let here : get_or vs i x ≡ x = sym (get_or-place us (get_or vs i x) x member) ∙ ap (λ p. get_or us p x) same
    ∙ get_or-place us x x among in
    ((λ _. (i, range, here)), (λ _. refl))
found us vs x (Err i) distinct kept among range result =
    let rises : IsNonDecreasingBy (place us) vs = subst (IsNonDecreasingBy (place us)) (sym kept)
    (IsNonDecreasingBy-filter (place us) (has vs) us (place-rises us distinct)) in
    let parts = result (λ a b d le l. index-rises (place us (get_or vs a d)) (place us (get_or vs b d)) (place us x)
    (rises a b d le l)) in
    ((λ h. absurd (true≢false (sym h))), (λ m. absurd (no m parts)))
  where
    at-member : (m : Contains vs x) → nat_cmp (place us (get_or vs m.0 x)) (place us x) ≡ Equal
    at-member m = rw m.2 (nat_cmp-same (place us x))

    no : Contains vs x → AllWithin (λ y. nat_cmp (place us y) (place us x) ≡ Less) vs 0 i × AllWithin
        (λ y. nat_cmp (place us y) (place us x) ≡ Greater) vs i (length vs) → ⊥
    no m parts = search (arith, at-member, cases_lt)
