-- Universals in order of declaration, beside the first ones.
use Rattle.std.proofs.Common.{◌≡◌, ◌≢◌, ℕ, zero, suc, ◌-◌, ◌≤◌, ◌<◌, ◌==◌, Bool, true, false, cond, List, [], ◌∷◌, length, take, get_or, filter, Some, None, IsTrue, position, eqb, leb, ltb, inl, inr, refl, sym, ◌∙◌, ap, subst, arith, get_or-take}
use Rattle.std.specs.Prelude.{◌↔◌}
use Rattle.std.specs.List.{All, AllPairs, Contains, IsDistinct}
use Rattle.std.specs.List.Sorted.{IsNonDecreasingBy}
use Rattle.std.proofs.lemmas.Bool.{eqb-true, cases_lt, leb-true, le-leb, ltb-true}
use Rattle.std.proofs.lemmas.Bool.Decides.{Decides-eqb}
use Rattle.std.proofs.lemmas.List.{length-take, length-append, get_or_default, get_or_append_left}
use Rattle.std.proofs.lemmas.List.Elements.{All-nil, All-cons, All-contains, All-head, All-tail, All-weaker}
use Rattle.std.proofs.lemmas.List.Kept.{IsNonDecreasingBy-filter}
use Rattle.std.proofs.lemmas.Map.Made.{IsDistinct-from_AllPairs}
use Rattle.dq_lits.specs.Formula.{Existential, Dqbf, existential_of, HasLawfulPrefix}
use Rattle.dq_lits.proofs.FormulaVariables.{find_sound}
use Rattle.dq_formula.specs.Prefix.{IsLawful}
use Rattle.dq_formula.proofs.Places.{place, has, has-contains, contains-has, place-found, place-get_or, place-rises}
use Rattle.dq_formula.proofs.Search.{Kept, All-kept}
use Rattle.dq_formula.proofs.Sorted.{get_or-place, place-below}
use Rattle.dq_formula.proofs.Subsets.{none_contained}
use Rattle.definition_order.proofs.SeenUniversals.{first_within}

pub universals_apart : (f : Dqbf) → HasLawfulPrefix f → AllPairs (λ v w. v ≢ w) f.universals
universals_apart f prefix i j d before below = search (arith, length-append, get_or_append_left)

-- some in order are all among the first ones where the last of them is
pub ends_tell : (us xs : List ℕ) (n p : ℕ) → AllPairs (λ v w. v ≢ w) us → Kept us xs → 0 < length xs →
    position (λ u. u == get_or xs (length xs - 1) 0) us ≡ Some p
    → (p < n ↔ All (Contains (take n us)) xs)
ends_tell us xs n p apart kept some found =
    let last = length xs - 1 in
    let distinct : IsDistinct eqb us = IsDistinct-from_AllPairs Decides-eqb us apart in
    let rises : IsNonDecreasingBy (place us) xs = subst (IsNonDecreasingBy (place us)) (sym kept)
    (IsNonDecreasingBy-filter (place us) (has xs) us (place-rises us distinct)) in
    let there = (place-found us (get_or xs last 0) p found).0 in
    let long = length-take n us in (
      (λ few k d below. (
          let x = get_or xs k d in
          let member = has-contains us x (All-kept us xs kept k d below) in
          let no_later = rises k last d (omega (arith, below)) (omega (arith, some)) in
          let same = ap (place us) (get_or_default xs last d 0 (omega (arith, some))) in
          let within = place-below us x member in
          let early : place us x < n = omega (arith, few, no_later, same, there) in (
            place us x,
            omega (arith, within, early, long),
            get_or-take n us (place us x) x early
                ∙ get_or-place us x x member,
          ))),
      (λ all. (
          let among = all last 0 (omega (arith, some)) in
          let q = among.0 in
          let below = among.1 in
          let x = get_or xs last 0 in
          let early : q < n = omega (arith, below, long) in
          let within : q < length us = omega (arith, below, long) in
          let here : get_or us q x ≡ x = sym (get_or-take n us q x early) ∙ among.2 in
          let same : place us x ≡ q = ap (place us) (sym here) ∙ place-get_or us q x distinct within in
          omega (arith, same, there, early))),
    )

-- what a filter keeps at a place stands there or later
later : (p : ℕ → Bool) (us : List ℕ) (k : ℕ) → k < length (filter p us) →
    (j : ℕ) × (k ≤ j) × (j < length us) × (get_or us j 0 ≡ get_or (filter p us) k 0)
later p [] k below = absurd (omega (arith, below))
later p (u ∷ us) k below = by (later p us) (p u) k below
  where
    by : ((i : ℕ) → i < length (filter p us) → (j : ℕ) × (i ≤ j) × (j < length us) ×
        (get_or us j 0 ≡ get_or (filter p us) i 0)) → (b : Bool) (k : ℕ) →
        k < length (cond b (u ∷ filter p us) (filter p us))
        → (j : ℕ) × (k ≤ j) × (j < suc (length us)) × (get_or (u ∷ us) j 0 ≡ get_or
        (cond b (u ∷ filter p us) (filter p us)) k 0)
    by there true zero lt = (0, omega arith, omega arith, refl)
    by there true (suc k) lt = let r = there k (omega (arith, lt)) in let a = r.1 in let b = r.2 in
        (suc r.0, omega (arith, a), omega (arith, b), r.3)
    by there false k lt = let r = there k lt in let a = r.1 in let b = r.2 in
        (suc r.0, omega (arith, a), omega (arith, b), r.3)

-- where a filter keeps an element at its place, it keeps all before
all_before : (p : ℕ → Bool) (us : List ℕ) (k : ℕ) → AllPairs (λ v w. v ≢ w) us → k < length (filter p us) →
    get_or (filter p us) k 0 ≡ get_or us k 0 → All (λ u. p u ≡ true) (take (suc k) us)
all_before p [] k apart below same = absurd (omega (arith, below))
all_before p (u ∷ us) k apart below same = by (λ i. all_before p us i rest) (p u) refl k below same
  where
    rest : AllPairs (λ v w. v ≢ w) us
    rest i j d before lt = apart (suc i) (suc j) d (omega (arith, before)) (omega (arith, lt))

    by : ((i : ℕ) → i < length (filter p us) → get_or (filter p us) i 0 ≡ get_or us i 0 →
        All (λ v. p v ≡ true) (take (suc i) us)) → (b : Bool) → p u ≡ b → (k : ℕ)
        → k < length (cond b (u ∷ filter p us) (filter p us)) →
        get_or (cond b (u ∷ filter p us) (filter p us)) k 0 ≡ get_or (u ∷ us) k 0 →
        All (λ v. p v ≡ true) (take (suc k) (u ∷ us))
    by before true e zero lt is = All-cons (λ v. p v ≡ true) u [] e (All-nil (λ v. p v ≡ true))
    by before true e (suc k) lt is = All-cons (λ v. p v ≡ true) u (take (suc k) us) e (before k (omega (arith, lt)) is)
    by before false e k lt is =
        let r = later p us k lt in
        let a = r.1 in
        let b = r.2 in
        absurd (apart k (suc r.0) 0 (omega (arith, a)) (omega (arith, b)) (sym is ∙ sym r.3))

-- a filter that keeps the first ones begins with them
front : (p : ℕ → Bool) (us : List ℕ) (m : ℕ) → All (λ u. p u ≡ true) (take m us) → take m (filter p us) ≡ take m us
front p us zero all = refl
front p [] (suc m) all = refl
front p (u ∷ us) (suc m) all =
    let first = All-head (λ v. p v ≡ true) u (take m us) all in
    let others = front p us m (All-tail (λ v. p v ≡ true) u (take m us) all) in
    ap (λ b. take (suc m) (cond b (u ∷ filter p us) (filter p us))) first ∙ ap (λ vs. u ∷ vs) others

front_of : (us vs : List ℕ) (m : ℕ) → Kept us vs → All (Contains vs) (take m us) → take m vs ≡ take m us
front_of us vs m kept all = ap (take m) kept ∙ front (has vs) us m
    (All-weaker (Contains vs) (λ u. has vs u ≡ true) (has-contains vs) (take m us) all)

-- the first ones are all among some in order where the last of them is at its place there
pub begins_tell : (us vs : List ℕ) (m : ℕ) → AllPairs (λ v w. v ≢ w) us → Kept us vs → 0 < m → m ≤ length us →
    m ≤ length vs
    → (get_or vs (m - 1) 0 ≡ get_or us (m - 1) 0 ↔ All (Contains vs) (take m us))
begins_tell us vs m apart kept some few enough =
    let k = m - 1 in
    let size : suc k ≡ m = omega (arith, some) in
    let many = ap length kept in
    let before : k < m = omega (arith, some) in (
      (λ same. (
          let kept_there : get_or (filter (has vs) us) k 0 ≡ get_or us k 0 = search arith in
          let all = all_before (has vs) us k apart (omega (arith, many, enough, some)) kept_there in
          subst (λ i. All (Contains vs) (take i us)) size (All-weaker (λ u. has vs u ≡ true) (Contains vs)
          (contains-has vs) (take (suc k) us) all))),
      (λ all. sym (get_or-take m vs k 0 before) ∙ ap (λ xs. get_or xs k 0) (front_of us vs m kept all)
          ∙ get_or-take m us k 0 before),
    )

pub too_few : (us vs : List ℕ) (m : ℕ) → Kept us vs → m ≤ length us → length vs < m → All (Contains vs) (take m us) → ⊥
too_few us vs m kept few short all =
    search (arith, (front_of us vs m kept all), (length-take m vs), (length-take m us))

-- the same, by tests

pub not_empty : (xs : List ℕ) (r : Bool) → r ≡ eqb (length xs) 0 → r ≡ false → 0 < length xs
not_empty [] r e is = cc
not_empty (x ∷ xs) r e is = omega arith

pub last_is_there : (us xs : List ℕ) → Kept us xs → 0 < length xs →
    position (λ u. u == get_or xs (length xs - 1) 0) us ≡ None → ⊥
last_is_there us xs kept some none = none_contained us (get_or xs (length xs - 1) 0) none
    (All-kept us xs kept (length xs - 1) 0 (omega (arith, some)))

pub ends_tested : (us xs : List ℕ) (n p : ℕ) → AllPairs (λ v w. v ≢ w) us → Kept us xs → 0 < length xs →
    position (λ u. u == get_or xs (length xs - 1) 0) us ≡ Some p
    → (IsTrue (ltb p n) ↔ All (Contains (take n us)) xs)
ends_tested us xs n p apart kept some found =
    search (arith, (ends_tell us xs n p apart kept some found), (ltb-true p n))

pub begins_tested : (us ws vs : List ℕ) (m : ℕ) → ws ≡ us → AllPairs (λ v w. v ≢ w) us → Kept us vs → (m ≡ 0 → ⊥) →
    m ≤ length us → m ≤ length vs
    → (IsTrue (eqb (get_or vs (m - 1) 0) (get_or ws (m - 1) 0)) ↔ All (Contains vs) (take m us))
begins_tested us ws vs m same apart kept some few enough =
    search (
      arith,
      (begins_tell us vs m apart kept),
      (eqb (get_or vs (m - 1) 0)),
      (get_or vs (m - 1) 0),
      get_or,
      (eqb-true (get_or vs (m - 1) 0) (get_or us (m - 1) 0)),
      (get_or us (m - 1) 0),
    )

-- an existential sees universals in order
seen_in_order : (f : Dqbf) → IsLawful f → (v : ℕ) (e : Existential) → existential_of f v ≡ Some e →
    Kept f.universals e.sees
seen_in_order f lawful v e known = search (arith, All-contains, find_sound)

-- among more first ones
pub firsts_tested : (f : Dqbf) → IsLawful f → (m n v : ℕ) (e : Existential) → existential_of f v ≡ Some e →
    take n f.universals ≡ e.sees → m ≤ length f.universals
    → (IsTrue (leb m n) ↔ All (Contains e.sees) (take m f.universals))
firsts_tested f lawful m n v e known is few =
    let us = f.universals in
    let kept = seen_in_order f lawful v e known in
    let long = length-take n us in
    let same = ap length is in (
      (λ yes. subst (λ xs. All (Contains xs) (take m us)) is (first_within us m n (leb-true m n yes))),
      (λ all. elim (cases_lt n m) [
        | inl more ↦ absurd (too_few us e.sees m kept few (omega (arith, more, long, same)) all)
        | inr enough ↦ le-leb m n enough
      ]),
    )

-- what holds of a list holds of the set that it is
pub seen_told : (xs ys zs : List ℕ) (b : Bool) → xs ≡ ys → (IsTrue b ↔ All (Contains xs) zs) →
    (IsTrue b ↔ All (Contains ys) zs)
seen_told xs ys zs b same tells = subst (λ vs. IsTrue b ↔ All (Contains vs) zs) same tells

pub those_told : (xs ys zs : List ℕ) (b : Bool) → ys ≡ zs → (IsTrue b ↔ All (Contains xs) ys) →
    (IsTrue b ↔ All (Contains xs) zs)
those_told xs ys zs b same tells = subst (λ vs. IsTrue b ↔ All (Contains xs) vs) same tells
