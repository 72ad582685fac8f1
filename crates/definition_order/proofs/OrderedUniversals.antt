-- A walk through two lists of universals in order of declaration.
use Rattle.std.proofs.Common.{◌≡◌, ◌≢◌, ℕ, ◌+◌, ◌≤◌, ◌<◌, List, length, take, get_or, IsTrue, true, false, refl, sym, ◌∙◌, ap, subst, arith, inl, inr, eqb}
use Rattle.std.specs.Prelude.{◌↔◌}
use Rattle.std.specs.List.{All, AllPairs, Contains, IsDistinct}
use Rattle.std.proofs.lemmas.Bool.{cases_lt}
use Rattle.std.proofs.lemmas.List.{take_more, take_all, get_or_default}
use Rattle.std.proofs.lemmas.List.Elements.{All-push}
use Rattle.std.proofs.lemmas.List.Kept.{AllPairs-filter}
use Rattle.dq_formula.proofs.Places.{place, has, place-get_or}
use Rattle.dq_formula.proofs.Search.{Kept}

abbrev Rises : List ℕ → List ℕ → Type 0
Rises us xs = AllPairs (λ v w. place us v < place us w) xs

rises : (us xs : List ℕ) → IsDistinct eqb us → Kept us xs → Rises us xs
rises us xs distinct kept = subst (Rises us) (sym kept) (AllPairs-filter (λ v w. place us v < place us w) (has xs) us
    (λ i j d before below.
    let a = place-get_or us i d distinct (omega (arith, before, below)) in
    let b = place-get_or us j d distinct below in
    omega (arith, a, b, before)))

-- what was found, and what is passed
pub record IsPassed (xs ys : List ℕ) (i at : ℕ) : Type 0 where
  pub found : All (Contains ys) (take i xs)
  pub passed : (k j : ℕ) → k < at → i ≤ j → j < length xs → get_or ys k 0 ≢ get_or xs j 0

pub passed_more : (us xs ys : List ℕ) (i at p x : ℕ) → IsDistinct eqb us → Kept us xs → Kept us ys →
    IsPassed xs ys i at → i < length xs → get_or xs i 0 ≡ x → p < length ys → get_or ys p 0 ≡ x
    → IsPassed xs ys (i + 1) (p + 1)
passed_more us xs ys i at p x distinct kept_xs kept_ys before l is within here = record {
  found = subst (All (Contains ys)) (sym (take_more xs i 0 l))
      (All-push (Contains ys) (take i xs) (get_or xs i 0) before.found
      (p, within, get_or_default ys p (get_or xs i 0) 0 within ∙ here ∙ sym is));
  passed = λ k j less le end same.
      let later = rises us xs distinct kept_xs i j 0 (omega (arith, le)) end in
      let one = ap (place us) (here ∙ sym is) in
      let other = ap (place us) same in
      elim (cases_lt k p) [
        | inl lt ↦ (let sooner = rises us ys distinct kept_ys k p 0 lt within in
            omega (arith, later, one, other, sooner))
        | inr ge ↦ search (arith, get_or)
      ];
}

pub none_among : (xs ys : List ℕ) (i at x : ℕ) → IsPassed xs ys i at → i < length xs → get_or xs i 0 ≡ x →
    ((k : ℕ) → at ≤ k → k < length ys → get_or ys k 0 ≢ x) → IsTrue false ↔ All (Contains ys) xs
none_among xs ys i at x before l is nowhere = (
  (λ t. absurd cc),
  (λ all.
      let (k, below, stands) = all i 0 l in
      let same : get_or ys k 0 ≡ get_or xs i 0 = get_or_default ys k 0 (get_or xs i 0) below ∙ stands in
      elim (cases_lt k at) [
        | inl lt ↦ absurd (before.passed k i lt (omega arith) l same)
        | inr ge ↦ absurd (nowhere k ge below (same ∙ is))
      ]),
)

pub all_among : (xs ys : List ℕ) (i at : ℕ) → IsPassed xs ys i at → length xs ≤ i → IsTrue true ↔ All (Contains ys) xs
all_among xs ys i at before past = ((λ t. subst (All (Contains ys)) (take_all i xs past) before.found), (λ all. refl))
