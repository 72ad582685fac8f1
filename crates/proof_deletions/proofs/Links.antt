-- Lists that get a place in front.
use Rattle.std.proofs.Common.{◌≡◌, ◌≢◌, ◌⊎◌, inl, inr, ℕ, ◌+◌, ◌≤◌, ◌<◌, cond, List, [], ◌∷◌, length, length-set, set, get_or, get_or-set_same, get_or-set_other, refl, sym, ◌∙◌, ap, subst, arith, eqb}
use Rattle.std.proofs.lemmas.Bool.{cases_eq, eqb-true, eq-eqb}
use Rattle.list_laws.proofs.Truths.{false_unless}
use Rattle.proof_deletions.specs.Chains.{IsChain, used_at, AreChained}

-- what stands in front of a list that begins behind it leaves it as it is
chain_stays : (nexts : List ℕ) (k v head : ℕ) (ks : List ℕ) → k < head → IsChain nexts head ks → IsChain
    (set nexts k v) head ks
chain_stays nexts k v head [] h is = is ∙ sym (length-set nexts k v)
chain_stays nexts k v head (j ∷ js) h (at, there, behind, rest) =
    let apart : j ≢ k = λ e. absurd (omega (arith, h, at, e)) in
    let same : get_or (set nexts k v) j 0 ≡ get_or nexts j 0 = get_or-set_other nexts k j v 0 apart in (
      at,
      omega (arith, there, length-set nexts k v),
      omega (arith, behind, same),
      subst (λ n. IsChain (set nexts k v) n js) (sym same)
          (chain_stays nexts k v (get_or nexts j 0) js (omega (arith, h, at, behind)) rest),
    )

-- one place more
used_step : (table : List ℕ) (k p : ℕ) → k < length table →
    used_at table k p ≡ cond (eqb (get_or table k 0) (p + 1)) (k ∷ used_at table (k + 1) p) (used_at table (k + 1) p)
used_step table k p h = search arith

used_kept : (table : List ℕ) (k p : ℕ) → k < length table → (get_or table k 0 ≡ p + 1 → ⊥) →
    used_at table k p ≡ used_at table (k + 1) p
used_kept table k p h other = search (arith, used_step, false_unless, eqb-true)

used_more : (table : List ℕ) (k p : ℕ) → k < length table → get_or table k 0 ≡ p + 1 →
    used_at table k p ≡ k ∷ used_at table (k + 1) p
used_more table k p h this = search (arith, used_step, eq-eqb)

-- a place that is used last at the line at a place
pub linked : (table heads nexts : List ℕ) (k last : ℕ) → k < length table → last < length table →
    get_or table k 0 ≡ last + 1 →
    AreChained table (k + 1) heads nexts →
    AreChained table k (set heads last k) (set nexts k (get_or heads last 0))
linked table heads nexts k last h below_all this are = record {
  heads_are_many = length-set heads last k ∙ are.heads_are_many;
  nexts_are_many = length-set nexts k next ∙ are.nexts_are_many;
  behind = λ p below. from p below (cases_eq p last);
  chains = λ p below. chain p below (cases_eq p last);
}
  where
    next : ℕ
    next = get_or heads last 0

    in_heads : last < length heads
    in_heads = let e = are.heads_are_many in omega (arith, e, below_all)

    in_nexts : k < length nexts
    in_nexts = let e = are.nexts_are_many in omega (arith, e, h)

    from : (p : ℕ) → p < length table → (p ≡ last) ⊎ (p ≡ last → ⊥) → k ≤ get_or (set heads last k) p 0
    from p below (inl e) =
        let here = get_or-set_same heads last k 0 in_heads in
        let at : get_or (set heads last k) p 0 ≡ get_or (set heads last k) last 0 = ap
        (λ i. get_or (set heads last k) i 0) e in
        omega (arith, here, at)
    from p below (inr n) =
        let other = get_or-set_other heads last p k 0 n in
        let b = are.behind p below in
        omega (arith, other, b)

    after : (p : ℕ) → p < length table → IsChain (set nexts k next) (get_or heads p 0) (used_at table (k + 1) p)
    after p below = chain_stays nexts k next (get_or heads p 0) (used_at table (k + 1) p)
        (let b = are.behind p below in omega (arith, b)) (are.chains p below)

    chain : (p : ℕ) → p < length table → (p ≡ last) ⊎ (p ≡ last → ⊥) →
        IsChain (set nexts k next) (get_or (set heads last k) p 0) (used_at table k p)
    chain p below (inl e) =
        subst (λ q. IsChain (set nexts k next) (get_or (set heads last k) q 0) (used_at table k q)) (sym e)
        (subst (λ n. IsChain (set nexts k next) n (used_at table k last))
        (sym (get_or-set_same heads last k 0 in_heads))
        (subst (IsChain (set nexts k next) k) (sym (used_more table k last h this)) (
          refl,
          (let l = length-set nexts k next in omega (arith, l, in_nexts)),
          (let s = get_or-set_same nexts k next 0 in_nexts in let b = are.behind last below_all in omega (arith, s, b)),
          subst (λ n. IsChain (set nexts k next) n (used_at table (k + 1) last))
              (sym (get_or-set_same nexts k next 0 in_nexts))
              (after last below_all),
        )))
    chain p below (inr n) =
        subst (λ m. IsChain (set nexts k next) m (used_at table k p)) (sym (get_or-set_other heads last p k 0 n))
        (subst (IsChain (set nexts k next) (get_or heads p 0))
        (sym (used_kept table k p h (λ e. n (let q : p + 1 ≡ last + 1 = sym e ∙ this in omega (arith, q)))))
        (after p below))

-- a list that goes on
pub record GoesOn (nexts : List ℕ) (at : ℕ) (left : List ℕ) : Type 0 where
  pub rest : List ℕ
  pub is : left ≡ at ∷ rest
  pub further : at < get_or nexts at 0
  pub chain : IsChain nexts (get_or nexts at 0) rest

pub goes_on : (nexts : List ℕ) (at : ℕ) (left : List ℕ) → IsChain nexts at left → at < length nexts →
    GoesOn nexts at left
goes_on nexts at [] is h = absurd (omega (arith, is, h))
goes_on nexts at (k ∷ ks) (is, there, behind, rest) h = record {
  rest = ks;
  is = ap (λ i. i ∷ ks) (sym is);
  further = subst (λ i. i < get_or nexts i 0) (sym is) behind;
  chain = subst (λ i. IsChain nexts (get_or nexts i 0) ks) (sym is) rest;
}

-- and one that ends
pub ends : (nexts : List ℕ) (at : ℕ) (left : List ℕ) → IsChain nexts at left → (at < length nexts → ⊥) → left ≡ []
ends nexts at [] is h = refl
ends nexts at (k ∷ ks) (is, there, behind, rest) h = absurd (h (omega (arith, is, there)))
