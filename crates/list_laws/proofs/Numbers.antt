-- Lemmas on numbers.
use Rattle.std.proofs.Common.{◌≡◌, ℕ, ◌+◌, ◌<◌, inl, inr, ◌⊎◌, arith, ◌-◌, ◌*◌, ◌/◌, ◌%◌, ◌≤◌, ap, ◌∙◌, ◌≢◌, ◌==◌, false, true, sym, eqb, ◌||◌, max, eq-eqb, zero, suc, [], ◌∷◌, ◌++◌, refl}
use Rattle.std.proofs.lemmas.Bool.{cases_lt, cases_Bool, eqb-true, cases_eq, ne_eqb}
use Rattle.std.proofs.Math.Nat.{mod-eq-sub-div-mul}
use Rattle.std.proofs.lemmas.Nat.{div-mul-add, mul-le}
use Rattle.std.specs.Ordering.{nat_cmp, ordering_then, is_eq}
use Rattle.std.specs.declared.cmp.Ordering.TheVariants.{Equal, Less, Greater}
use Rattle.std.proofs.lemmas.Bool.Decides.{nat_tests}
use Rattle.std.specs.List.{range_with_len, AllPairs}
use Rattle.std.specs.declared.cmp.Ordering.{Ordering}
use Rattle.list_laws.proofs.Truths.{equal_numbers}
use Rattle.std.proofs.lemmas.List.FromFn.{get_or-range_with_len, length-range_with_len}

pub below_or_here : (p count : ℕ) → p < count + 1 → (p < count) ⊎ (p ≡ count)
below_or_here p count below = elim (cases_lt p count) [ inl early ↦ inl early | inr late ↦ inr (omega arith) ]

pub pair_row : (place v w : ℕ) → 1 ≤ w → w ≤ v → (place * v + w - 1) / v ≡ place
pair_row place v w low high =
    let same : place * v + w - 1 ≡ place * v + (w - 1) = omega arith in
    ap (λ n. n / v) same ∙ div-mul-add place v (w - 1) (omega arith)

pub pair_variable : (place v w : ℕ) → 1 ≤ w → w ≤ v → (place * v + w - 1) % v + 1 ≡ w
pair_variable place v w low high =
    let row = pair_row place v w low high in
    let is = mod-eq-sub-div-mul (place * v + w - 1) v in
    let times : (place * v + w - 1) / v * v ≡ place * v = ap (λ n. n * v) row in
    omega (arith, is, times)

pub nat_cmp-same : (a : ℕ) → nat_cmp a a ≡ Equal
nat_cmp-same a = grind (arith, nat_tests)

pub same_or_not : (a b : ℕ) → (a ≡ b) ⊎ (a ≢ b)
same_or_not a b = elim (cases_Bool (a == b)) [
  | inl same ↦ inl (eqb-true a b same)
  | inr other ↦ inr (λ same. clash (sym (eq-eqb a b same) ∙ other))
]
  where
    clash : true ≡ false → ⊥
    clash e = cc

pub eqb-flip : (a b : ℕ) → eqb a b ≡ eqb b a
eqb-flip a b = grind (arith, nat_tests)

pub most_bit : (a b : ℕ) → a < 2 → b < 2 → (max a b == 1) ≡ ((a == 1) || (b == 1))
most_bit a b a_bit b_bit = grind (arith, nat_tests)

pub equal-swap : (a b : ℕ) → (a == b) ≡ (b == a)
equal-swap a b = elim (cases_eq a b) [
  | inl same ↦ eq-eqb a b same ∙ sym (eq-eqb b a (sym same))
  | inr other ↦ ne_eqb a b other ∙ sym (ne_eqb b a (λ e. other (sym e)))
]

-- one number more
pub range_more : (a n : ℕ) → range_with_len a (suc n) ≡ range_with_len a n ++ (a + n) ∷ []
range_more a zero = ap (λ x. x ∷ []) (let e : a ≡ a + 0 = omega arith in e)
range_more a (suc n) = ap (λ xs. a ∷ xs) (range_more (a + 1) n ∙ ap (λ x. range_with_len (a + 1) n ++ x ∷ [])
    (let e : a + 1 + n ≡ a + suc n = omega arith in e))

pub few-rows : (k c : ℕ) → k ≤ 1000000000 → c ≤ 10000000 → k * c ≤ 10000000000000000
few-rows k c low low-c = mul-le k c 1000000000 10000000 low low-c

pub range_append : (start a b : ℕ) → range_with_len start a ++ range_with_len (start + a) b ≡ range_with_len start (a + b)
range_append start zero b =
    ap (λ s. range_with_len s b) (let e : start + 0 ≡ start = omega arith in e)
    ∙ ap (range_with_len start) (let e : b ≡ 0 + b = omega arith in e)
range_append start (suc a) b =
    ap (λ s. start ∷ (range_with_len (start + 1) a ++ range_with_len s b)) (let e : start + suc a ≡ start + 1 + a = omega arith in e)
    ∙ (ap (λ xs. start ∷ xs) (range_append (start + 1) a b)
    ∙ ap (range_with_len start) (let e : suc (a + b) ≡ suc a + b = omega arith in e))

pub equal_pairs : (p q : ℕ × ℕ) → is_eq (ordering_then (nat_cmp p.0 q.0) (nat_cmp p.1 q.1)) ≡ true → (p.0 ≡ q.0) × (p.1 ≡ q.1)
equal_pairs p q h = by (nat_cmp p.0 q.0) refl h where
  by : (o : Ordering) → nat_cmp p.0 q.0 ≡ o → is_eq (ordering_then o (nat_cmp p.1 q.1)) ≡ true →
      (p.0 ≡ q.0) × (p.1 ≡ q.1)
  by Less e h = cc
  by Equal e h = (equal_numbers p.0 q.0 (ap is_eq e), equal_numbers p.1 q.1 h)
  by Greater e h = cc

pub same_pair : (p : ℕ × ℕ) → is_eq (ordering_then (nat_cmp p.0 p.0) (nat_cmp p.1 p.1)) ≡ true
same_pair p = ap (λ o. is_eq (ordering_then o (nat_cmp p.1 p.1))) (nat_cmp-same p.0) ∙ ap is_eq (nat_cmp-same p.1)

pub range_distinct : (a n : ℕ) → AllPairs (λ i j. i ≢ j) (range_with_len a n)
range_distinct a n i j d before within same =
    omega (arith, before, within, length-range_with_len a n, same, get_or-range_with_len a n i d, get_or-range_with_len a n j d)
