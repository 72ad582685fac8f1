-- Lists of clauses, as clauses go from one to another.
use Rattle.std.proofs.Common.{◌≡◌, ◌≢◌, ℕ, zero, suc, ◌+◌, ◌-◌, ◌*◌, ◌<◌, ◌≤◌, ◌==◌, true, false, cond, ◌⊎◌, inl, inr, List, [], ◌∷◌, ◌++◌, length, set, get_or, refl, sym, ◌∙◌, ap, subst, arith, get_or-set_other, get_or-set_same, length-append, take, All}
use Rattle.std.specs.List.{AllByRecursion, IsDistinct}
use Rattle.std.proofs.Math.Dec.{eqb}
use Rattle.std.proofs.Math.Seq.{get_or-append_seam}
use Rattle.std.proofs.lemmas.Bool.{cases_Bool, cases_eq, false≢true, or_cases, or_left, or_right, or_parts, eq-eqb, ne_eqb, eqb-true}
use Rattle.std.proofs.lemmas.List.{length-set, take_more, get_or_past, get_or_append_left}
use Rattle.std.proofs.lemmas.List.Elements.{All-cons, All-append, All-nil}
use Rattle.std.proofs.lemmas.Map.Steps.{length-le_from_distinct_below}
use Rattle.dq_lits.specs.Literal.{Literal, positive, negative, variable_of}
use Rattle.short_numbers.specs.Numbers.{Numbers}
use Rattle.cdcl_core.specs.declared.watches.Watches.{Watches}
use Rattle.cdcl_core.specs.declared.watches.OpenList.{OpenList}
use Rattle.cdcl_core.specs.Chains.{chain_length, watch_at, place_of, has, IsChain, AreOnce, AreLinked, IsLinked, HasList, FitIds, with_open, IsTaken, AddsLists}

pub place_of-one : (k l : Literal) → place_of k ≡ place_of l → k ≡ l
place_of-one (positive v) (positive w) e = ap positive (omega (arith, e))
place_of-one (positive v) (negative w) e = absurd (omega (arith, e))
place_of-one (negative v) (positive w) e = absurd (omega (arith, e))
place_of-one (negative v) (negative w) e = ap negative (omega (arith, e))

pub has_first : (id : ℕ) (rest : List ℕ) → has (id ∷ rest) id ≡ true
has_first id rest = or_left (id == id) (has rest id) (eq-eqb id id refl)

pub has_later : (id x : ℕ) (rest : List ℕ) → has rest x ≡ true → has (id ∷ rest) x ≡ true
has_later id x rest h = or_right (x == id) (has rest x) h

pub has_cases : (id x : ℕ) (rest : List ℕ) → has (id ∷ rest) x ≡ true → (x ≡ id) ⊎ (has rest x ≡ true)
has_cases id x rest h = search (arith, or_cases, eqb-true)

pub chain_range : (nexts : List ℕ) (start x : ℕ) (xs : List ℕ) → IsChain nexts start xs → has xs x ≡ true →
    (1 ≤ x) × (x ≤ length nexts)
chain_range nexts start x [] c h = absurd (false≢true h)
chain_range nexts start x (y ∷ ys) c h = elim (has_cases y x ys h) [
  | inl e ↦ let low = c.1 in let high = c.2 in (omega (arith, e, low), omega (arith, e, high))
  | inr t ↦ chain_range nexts (get_or nexts (y - 1) 0) x ys c.3 t
]

chain_keeps : (nexts : List ℕ) (start id v : ℕ) (xs : List ℕ) → 1 ≤ id → has xs id ≡ false → IsChain nexts start xs →
    IsChain (set nexts (id - 1) v) start xs
chain_keeps nexts start id v [] one none c = c
chain_keeps nexts start id v (x ∷ xs) one none c =
    let p = or_parts (id == x) (has xs id) none in
    let n : id ≢ x = λ e. false≢true (sym p.0 ∙ eq-eqb id x e) in
    let low = c.1 in
    let high = c.2 in
    let same : get_or (set nexts (id - 1) v) (x - 1) 0 ≡ get_or nexts (x - 1) 0 =
    get_or-set_other nexts (id - 1) (x - 1) v 0 (λ e. n (omega (arith, one, low, e))) in (
      c.0,
      low,
      omega (arith, high, length-set nexts (id - 1) v),
      subst (λ s. IsChain (set nexts (id - 1) v) s xs) (sym same)
          (chain_keeps nexts (get_or nexts (x - 1) 0) id v xs one p.1 c.3),
    )

chain_longer : (nexts more : List ℕ) (start : ℕ) (xs : List ℕ) → IsChain nexts start xs →
    IsChain (nexts ++ more) start xs
chain_longer nexts more start [] c = c
chain_longer nexts more start (x ∷ xs) c =
    let low = c.1 in
    let high = c.2 in
    let same : get_or (nexts ++ more) (x - 1) 0 ≡ get_or nexts (x - 1) 0 =
    get_or_append_left nexts more 0 (x - 1) (omega (arith, low, high)) in (
      c.0,
      low,
      omega (arith, high, length-append nexts more),
      subst (λ s. IsChain (nexts ++ more) s xs) (sym same) (chain_longer nexts more (get_or nexts (x - 1) 0) xs c.3),
    )

-- a list that begins nowhere is empty
chain_none : (nexts : List ℕ) (xs : List ℕ) → IsChain nexts 0 xs → xs ≡ []
chain_none nexts [] c = refl
chain_none nexts (x ∷ xs) c = let e = c.0 in let low = c.1 in absurd (omega (arith, e, low))

distinct : (xs : List ℕ) → AreOnce xs → IsDistinct eqb xs
unfolding IsDistinct
distinct [] once = tt
distinct (x ∷ xs) once = (apart x xs once.0, distinct xs once.1)
  where
    apart : (x : ℕ) (ys : List ℕ) → has ys x ≡ false → AllByRecursion (λ y. eqb x y ≡ false) ys
    apart x [] none = tt
    apart x (y ∷ ys) none = let p = or_parts (x == y) (has ys x) none in (p.0, apart x ys p.1)

zero_apart : (nexts : List ℕ) (start : ℕ) (xs : List ℕ) → IsChain nexts start xs →
    AllByRecursion (λ y. eqb 0 y ≡ false) xs
zero_apart nexts start [] c = tt
zero_apart nexts start (x ∷ xs) c =
    let low = c.1 in
    (ne_eqb 0 x (λ e. omega (arith, e, low)), zero_apart nexts (get_or nexts (x - 1) 0) xs c.3)

-- no more ids stand on a list than there are
pub chain_short : (nexts : List ℕ) (start : ℕ) (xs : List ℕ) → IsChain nexts start xs → AreOnce xs →
    length xs ≤ length nexts
unfolding IsDistinct
chain_short nexts start xs c once =
    let all : length (0 ∷ xs) ≤ suc (length nexts) = length-le_from_distinct_below (0 ∷ xs) (suc (length nexts))
    (zero_apart nexts start xs c, distinct xs once) (λ q h. elim (has_cases 0 q xs h) [
      | inl e ↦ omega (arith, e)
      | inr t ↦ let r = chain_range nexts start q xs c t in let high = r.1 in omega (arith, high)
    ]) in
    omega (arith, all)

-- so many stand on a list
pub chain_counted : (n : ℕ) (nexts : List ℕ) (start : ℕ) (xs : List ℕ) → IsChain nexts start xs → length xs ≤ n →
    chain_length n nexts start ≡ length xs
chain_counted zero nexts start [] c few = refl
chain_counted zero nexts start (x ∷ xs) c few = absurd (omega (arith, few))
chain_counted (suc n) nexts start [] c few = search (arith, eq-eqb)
chain_counted (suc n) nexts start (x ∷ xs) c few = search (arith, ne_eqb, (chain_counted n nexts))

chain_start : (nexts : List ℕ) (start : ℕ) (xs : List ℕ) → IsChain nexts start xs → start ≤ length nexts
chain_start nexts start [] c = omega (arith, c)
chain_start nexts start (x ∷ xs) c = let is = c.0 in let high = c.2 in omega (arith, is, high)

-- lists that are linked begin with ids that there are
pub linked_in : (w : Watches) (heads nexts : List ℕ) (literals : List Literal) (left : ℕ) (rest : List ℕ) →
    w.heads.items ≡ heads → w.nexts.items ≡ nexts → w.literals.items ≡ literals → length nexts ≤ w.heads.most →
    length nexts ≤ w.nexts.most → AreLinked heads nexts literals left rest → IsLinked w left rest
linked_in w heads nexts literals left rest heads_are nexts_are literals_are fit fit' k = search (arith, chain_start)

-- the first clause of the list that is visited is one that there is
pub open_first : (w : Watches) (o : OpenList) → HasList w o.literal → FitIds (with_open w o)
    → o.first ≤ length w.nexts.items
open_first w o list fits =
    let q = place_of o.literal in
    let here = get_or-set_same w.heads.items q o.first 0 (omega (arith, list)) in
    let begin = fits.begin q in
    omega (arith, here, begin)

pub open_fits : (w : Watches) (o : OpenList) → HasList w o.literal → FitIds (with_open w o) → o.first ≤ w.heads.most
open_fits w o list fits = let heads = fits.heads in omega (arith, open_first w o list fits, heads)

-- one list changes
abbrev put : (ℕ → List ℕ) → ℕ → List ℕ → ℕ → List ℕ
put lists q xs p = cond (p == q) xs (lists p)

put_here : (lists : ℕ → List ℕ) (q : ℕ) (xs : List ℕ) (p : ℕ) → p ≡ q → put lists q xs p ≡ xs
put_here lists q xs p e = ap (λ b. cond b xs (lists p)) (eq-eqb p q e)

put_other : (lists : ℕ → List ℕ) (q : ℕ) (xs : List ℕ) (p : ℕ) → p ≢ q → put lists q xs p ≡ lists p
put_other lists q xs p n = ap (λ b. cond b xs (lists p)) (ne_eqb p q n)

head_here : (heads : List ℕ) (q v p : ℕ) → q < length heads → p ≡ q → get_or (set heads q v) p 0 ≡ v
head_here heads q v p lt e = ap (λ n. get_or (set heads q v) n 0) e ∙ get_or-set_same heads q v 0 lt

pub linked_put : (heads nexts : List ℕ) (literals : List Literal) (id q : ℕ) (rest : List ℕ) →
    AreLinked heads nexts literals id (id ∷ rest)
    → place_of (watch_at literals (id - 1)) ≡ q → q < length heads
    → AreLinked (set heads q id) (set nexts (id - 1) (get_or heads q 0)) literals (get_or nexts (id - 1) 0) rest
linked_put heads nexts literals id q rest k at lt =
    let c = k.rest_chain in
    let one = c.1 in
    let high = c.2 in
    let next = get_or heads q 0 in
    let nexts' = set nexts (id - 1) next in
    let long : length nexts' ≡ length nexts = length-set nexts (id - 1) next in
    let absent : (p : ℕ) → has (k.lists p) id ≡ false = λ p. elim (cases_Bool (has (k.lists p) id)) [
      | inl h ↦ absurd (false≢true (sym (k.rest_apart p id h) ∙ has_first id rest))
      | inr n ↦ n
    ] in
    let lists = put k.lists q (id ∷ k.lists q) in
    let Q : (p : ℕ) → List ℕ → Type 0 = λ p xs. (IsChain nexts' (get_or (set heads q id) p 0) xs) × AreOnce xs ×
    ((x : ℕ) → has xs x ≡ true → (place_of (watch_at literals (x - 1)) ≡ p) × (has rest x ≡ false)) in
    let all : (p : ℕ) → Q p (lists p) = λ p. elim (cases_eq p q) [
      | inl e ↦ subst (Q p) (sym (put_here k.lists q (id ∷ k.lists q) p e)) (
        (
          head_here heads q id p lt e,
          one,
          omega (arith, high, long),
          subst (λ s. IsChain nexts' s (k.lists q)) (sym (get_or-set_same nexts (id - 1) next 0
              (omega (arith, one, high)))) (chain_keeps nexts next id next (k.lists q) one (absent q) (k.chains q)),
        ),
        (absent q, k.once q),
        λ x h. elim (has_cases id x (k.lists q) h) [
          | inl s ↦ (ap (λ n. place_of (watch_at literals (n - 1))) s ∙ at ∙ sym e, ap (has rest) s ∙ k.rest_once.0)
          | inr t ↦ (k.on_list q x t ∙ sym e, (or_parts (x == id) (has rest x) (k.rest_apart q x t)).1)
        ],
      )
      | inr n ↦ subst (Q p) (sym (put_other k.lists q (id ∷ k.lists q) p n)) (
        subst (λ s. IsChain nexts' s (k.lists p)) (sym (get_or-set_other heads q p id 0 n))
            (chain_keeps nexts (get_or heads p 0) id next (k.lists p) one (absent p) (k.chains p)),
        k.once p,
        λ x t. (k.on_list p x t, (or_parts (x == id) (has rest x) (k.rest_apart p x t)).1),
      )
    ] in
    record {
      count = k.count ∙ sym long;
      lists = lists;
      chains = λ p. (all p).0;
      once = λ p. (all p).1;
      on_list = λ p x h. ((all p).2 x h).0;
      rest_chain = chain_keeps nexts (get_or nexts (id - 1) 0) id next rest one k.rest_once.0 c.3;
      rest_once = k.rest_once.1;
      rest_apart = λ p x h. ((all p).2 x h).1;
      whole = λ x low up.
          let place = place_of (watch_at literals (x - 1)) in
          elim (k.whole x low (omega (arith, up, long))) [
            | inl t ↦ elim (cases_eq place q) [
              | inl e ↦ inl (subst (λ xs. has xs x ≡ true) (sym (put_here k.lists q (id ∷ k.lists q) place e))
                  (has_later id x (k.lists q) (subst (λ p. has (k.lists p) x ≡ true) e t)))
              | inr n ↦ inl (subst (λ xs. has xs x ≡ true) (sym (put_other k.lists q (id ∷ k.lists q) place n)) t)
            ]
            | inr t ↦ elim (has_cases id x rest t) [
              | inl s ↦
                  let e : place ≡ q = ap (λ n. place_of (watch_at literals (n - 1))) s ∙ at in
                  inl (subst (λ xs. has xs x ≡ true) (sym (put_here k.lists q (id ∷ k.lists q) place e))
                  (ap (has (id ∷ k.lists q)) s ∙ has_first id (k.lists q)))
              | inr u ↦ inr u
            ]
          ];
    }

-- a clause that is left to visit gets another literal
pub linked_relabelled : (heads nexts : List ℕ) (literals : List Literal) (id : ℕ) (l : Literal) (rest : List ℕ) →
    AreLinked heads nexts literals id (id ∷ rest)
    → AreLinked heads nexts (set literals (id - 1) l) id (id ∷ rest)
linked_relabelled heads nexts literals id l rest k =
    search (arith, get_or-set_other, length-set, chain_range, false≢true, has_first, cases_eq)

-- a list is taken away
pub linked_taken : (heads nexts : List ℕ) (literals : List Literal) (q : ℕ) → q < length heads →
    (k : AreLinked heads nexts literals 0 [])
    → AreLinked (set heads q 0) nexts literals (get_or heads q 0) (k.lists q)
linked_taken heads nexts literals q lt k =
    let Q : (p : ℕ) → List ℕ → Type 0 = λ p xs. (IsChain nexts (get_or (set heads q 0) p 0) xs) × AreOnce xs ×
    ((x : ℕ) → has xs x ≡ true → (place_of (watch_at literals (x - 1)) ≡ p) × (has (k.lists q) x ≡ false)) in
    let all : (p : ℕ) → Q p (put k.lists q [] p) = λ p. elim (cases_eq p q) [
      | inl e ↦ subst (Q p) (sym (put_here k.lists q [] p e))
          (head_here heads q 0 p lt e, tt, λ x h. absurd (false≢true h))
      | inr n ↦ subst (Q p) (sym (put_other k.lists q [] p n)) (
        subst (λ s. IsChain nexts s (k.lists p)) (sym (get_or-set_other heads q p 0 0 n)) (k.chains p),
        k.once p,
        λ x t. (
          k.on_list p x t,
          elim (cases_Bool (has (k.lists q) x))
              [ inl u ↦ absurd (n (sym (k.on_list p x t) ∙ k.on_list q x u)) | inr f ↦ f ],
        ),
      )
    ] in
    record {
      count = k.count;
      lists = put k.lists q [];
      chains = λ p. (all p).0;
      once = λ p. (all p).1;
      on_list = λ p x h. ((all p).2 x h).0;
      rest_chain = k.chains q;
      rest_once = k.once q;
      rest_apart = λ p x h. ((all p).2 x h).1;
      whole = λ x low up.
          let place = place_of (watch_at literals (x - 1)) in
          elim (k.whole x low up) [
            | inl t ↦ elim (cases_eq place q) [
              | inl e ↦ inr (subst (λ p. has (k.lists p) x ≡ true) e t)
              | inr n ↦ inl (subst (λ xs. has xs x ≡ true) (sym (put_other k.lists q [] place n)) t)
            ]
            | inr t ↦ absurd (false≢true t)
          ];
    }

pub taken_list : (heads nexts : List ℕ) (literals : List Literal) (w : Watches) (l : Literal) →
    place_of l < length heads → (k : AreLinked heads nexts literals 0 [])
    → w.heads.items ≡ set heads (place_of l) 0 → w.nexts.items ≡ nexts → w.literals.items ≡ literals →
    length nexts ≤ w.heads.most → length nexts ≤ w.nexts.most →
    IsTaken w l (get_or heads (place_of l) 0)
taken_list heads nexts literals w l lt k heads_are nexts_are literals_are fit fit' =
    let q = place_of l in
    record {
      rest = k.lists q;
      linked = linked_in w (set heads q 0) nexts literals (get_or heads q 0) (k.lists q) heads_are nexts_are literals_are
          fit fit' (linked_taken heads nexts literals q lt k);
      watched = λ x h. ap (λ ls. watch_at ls (x - 1)) literals_are ∙ place_of-one (watch_at literals (x - 1)) l
          (k.on_list q x h);
      whole = λ x low up at.
          let here : watch_at literals (x - 1) ≡ l = ap (λ ls. watch_at ls (x - 1)) (sym literals_are) ∙ at in
          elim (k.whole x low (omega (arith, up, ap length nexts_are))) [
            | inl t ↦ subst (λ m. has (k.lists (place_of m)) x ≡ true) here t
            | inr t ↦ absurd (false≢true t)
          ];
    }

pub taken_none : (w : Watches) (l : Literal) → length w.heads.items ≤ place_of l → IsLinked w 0 [] → IsTaken w l 0
taken_none w l past linked = search (arith, chain_none, get_or_past, false≢true)

-- one clause more
pub linked_more : (heads nexts : List ℕ) (literals : List Literal) (l : Literal) (id : ℕ) →
    AreLinked heads nexts literals 0 [] → place_of l < length heads → id ≡ length nexts + 1
    → AreLinked (set heads (place_of l) id) (nexts ++ get_or heads (place_of l) 0 ∷ []) (literals ++ l ∷ []) 0 []
linked_more heads nexts literals l id k lt is =
    let q = place_of l in
    let next = get_or heads q 0 in
    let nexts' = nexts ++ next ∷ [] in
    let literals' = literals ++ l ∷ [] in
    let long : length nexts' ≡ length nexts + 1 = length-append nexts (next ∷ []) in
    let count = k.count in
    let last : id - 1 ≡ length nexts = omega (arith, is) in
    let new : watch_at literals' (id - 1) ≡ l = ap (watch_at literals') (last ∙ sym count)
    ∙ get_or-append_seam literals l [] (positive 0) in
    let old : (x : ℕ) → 1 ≤ x → x ≤ length nexts → watch_at literals' (x - 1) ≡ watch_at literals (x - 1) = λ x low up.
    get_or_append_left literals (l ∷ []) (positive 0) (x - 1) (omega (arith, low, up, count)) in
    let absent : (p : ℕ) → has (k.lists p) id ≡ false = λ p. elim (cases_Bool (has (k.lists p) id)) [
      | inl h ↦ let r = (chain_range nexts (get_or heads p 0) id (k.lists p) (k.chains p) h).1 in
          absurd (omega (arith, r, is))
      | inr n ↦ n
    ] in
    let here : (p x : ℕ) → has (k.lists p) x ≡ true → place_of (watch_at literals' (x - 1)) ≡ p = λ p x h.
    (let r = chain_range nexts (get_or heads p 0) x (k.lists p) (k.chains p) h in
    ap place_of (old x r.0 r.1) ∙ k.on_list p x h) in
    let lists = put k.lists q (id ∷ k.lists q) in
    let Q : (p : ℕ) → List ℕ → Type 0 = λ p xs. (IsChain nexts' (get_or (set heads q id) p 0) xs) × AreOnce xs ×
    ((x : ℕ) → has xs x ≡ true → place_of (watch_at literals' (x - 1)) ≡ p) in
    let all : (p : ℕ) → Q p (lists p) = λ p. elim (cases_eq p q) [
      | inl e ↦ subst (Q p) (sym (put_here k.lists q (id ∷ k.lists q) p e)) (
        (
          head_here heads q id p lt e,
          omega (arith, is),
          omega (arith, is, long),
          subst (λ s. IsChain nexts' s (k.lists q)) (sym (ap (λ n. get_or nexts' n 0) last
              ∙ get_or-append_seam nexts next [] 0)) (chain_longer nexts (next ∷ []) next (k.lists q) (k.chains q)),
        ),
        (absent q, k.once q),
        λ x h. elim (has_cases id x (k.lists q) h) [
          | inl s ↦ ap (λ n. place_of (watch_at literals' (n - 1))) s ∙ ap place_of new ∙ sym e
          | inr t ↦ here q x t ∙ sym e
        ],
      )
      | inr n ↦ subst (Q p) (sym (put_other k.lists q (id ∷ k.lists q) p n)) (
        subst (λ s. IsChain nexts' s (k.lists p)) (sym (get_or-set_other heads q p id 0 n))
            (chain_longer nexts (next ∷ []) (get_or heads p 0) (k.lists p) (k.chains p)),
        k.once p,
        here p,
      )
    ] in
    record {
      count = omega (arith, count, long, length-append literals (l ∷ []));
      lists = lists;
      chains = λ p. (all p).0;
      once = λ p. (all p).1;
      on_list = λ p x h. (all p).2 x h;
      rest_chain = refl;
      rest_once = tt;
      rest_apart = λ p x h. refl;
      whole = λ x low up.
          let place = place_of (watch_at literals' (x - 1)) in
          elim (cases_eq x id) [
            | inl s ↦
                let e : place ≡ q = ap (λ n. place_of (watch_at literals' (n - 1))) s ∙ ap place_of new in
                inl (subst (λ xs. has xs x ≡ true) (sym (put_here k.lists q (id ∷ k.lists q) place e))
                (ap (has (id ∷ k.lists q)) s ∙ has_first id (k.lists q)))
            | inr n ↦
                let small : x ≤ length nexts = omega (arith, up, long, is, n) in
                elim (k.whole x low small) [
                  | inl t ↦
                      let t' : has (k.lists place) x ≡ true =
                      subst (λ m. has (k.lists (place_of m)) x ≡ true) (sym (old x low small)) t in
                      elim (cases_eq place q) [
                        | inl e ↦ inl (subst (λ xs. has xs x ≡ true) (sym (put_here k.lists q (id ∷ k.lists q) place e))
                            (has_later id x (k.lists q) (subst (λ p. has (k.lists p) x ≡ true) e t')))
                        | inr o ↦ inl (subst (λ xs. has xs x ≡ true)
                            (sym (put_other k.lists q (id ∷ k.lists q) place o)) t')
                      ]
                  | inr t ↦ absurd (false≢true t)
                ]
          ];
    }

pub linked_none : AreLinked [] [] [] 0 []
linked_none = record {
  count = refl;
  lists = λ _. [];
  chains = λ p. refl;
  once = λ p. tt;
  on_list = λ p x h. absurd (false≢true h);
  rest_chain = refl;
  rest_once = tt;
  rest_apart = λ p x h. absurd (false≢true h);
  whole = λ x low up. absurd (omega (arith, low, up));
}

pub added_both : (a b c : Numbers) → AddsLists a b → AddsLists b c → AddsLists a c
added_both a b c f g = search arith

pub listed_more : (n m : ℕ) (lits : List Literal) (l : Literal) (i : ℕ) → i < length lits → get_or lits i l ≡ l →
    variable_of l * 2 + 2 ≤ m → n ≤ m
    → All (λ k. place_of k + 1 ≤ n) (take i lits) → All (λ k. place_of k + 1 ≤ m) (take (i + 1) lits)
listed_more n m lits l i lt at wide le all =
    let P : Literal → Type 0 = λ k. place_of k + 1 ≤ m in
    let longer : take (i + 1) lits ≡ take i lits ++ l ∷ [] =
    take_more lits i l lt ∙ ap (λ y. take i lits ++ y ∷ []) at in
    subst (λ xs. All P xs) (sym longer) (All-append P (take i lits) (l ∷ [])
    (λ j d g. let low = all j d g in omega (arith, low, le)) (All-cons P l [] (low_place l wide) (All-nil P)))
  where
    low_place : (l : Literal) → variable_of l * 2 + 2 ≤ m → place_of l + 1 ≤ m
    low_place (positive v) h = omega (arith, h)
    low_place (negative v) h = omega (arith, h)
