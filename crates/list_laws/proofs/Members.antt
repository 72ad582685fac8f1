-- Lemmas on what lists contain.
use Rattle.std.proofs.Common.{◌≡◌, ℕ, ◌==◌, true, List, sym, suc, Bool, false, ◌||◌, [], ◌∷◌, refl, arith, eqb, get_or, map, ◌∙◌, ap, zero, inl, inr, Option, Some, subst, None, cond, ◌⊎◌, slice_get, ◌++◌, ◌+◌, ◌<◌, ◌≢◌, length, length-append, Contains, ◌-◌, ◌≤◌}
use Rattle.std.specs.List.{list_any, filter_map, cons_option, filter, range_with_len, AllPairs, All, Contains}
use Rattle.std.proofs.lemmas.Bool.{eqb-true, eq-eqb, or_cases}
use Rattle.std.proofs.lemmas.Map.Views.{Contains-from_any}
use Rattle.std.proofs.lemmas.List.Folds.{list_any_at}
use Rattle.std.proofs.lemmas.List.{length-map, get_or-map, get_or-append-add, get_or_default}
use Rattle.std.proofs.lemmas.Option.{slice_get_within, get_or_from_slice_get, slice_get-get_or}
use Rattle.std.proofs.Math.ListN.{get_or-append}
use Rattle.std.proofs.lemmas.List.Elements.{Contains-get_or}

pub contains_tested : (xs : List ℕ) (v : ℕ) → list_any (λ x. x == v) xs ≡ true → Contains xs v
contains_tested xs v h = Contains-from_any {eq = λ a b. b == a} (λ a b e. sym (eqb-true b a e)) v xs h

pub contains_found : (q : ℕ) (xs : List ℕ) → list_any (eqb q) xs ≡ true → Contains xs q
contains_found q [] h = cc
contains_found q (x ∷ xs) h = by_bit (contains_found q xs) (eqb q x) refl h where
  by_bit : (list_any (eqb q) xs ≡ true → Contains xs q) → (b : Bool) → eqb q x ≡ b → (b || list_any (eqb q) xs) ≡ true →
      Contains (x ∷ xs) q
  by_bit later true e k = (0, omega arith, sym (eqb-true q x e))
  by_bit later false e k = let r = later k in let low = r.1 in (suc r.0, omega (arith, low), r.2)

pub tested_inside : (xs : List ℕ) (v : ℕ) → Contains xs v → list_any (λ x. x == v) xs ≡ true
tested_inside xs v inside = list_any_at (λ x. x == v) xs inside.0 v inside.1 (eq-eqb (get_or xs inside.0 v) v inside.2)

pub contains_map : {X Y : Type 0} (f : X → Y) (xs : List X) (x : X) → Contains xs x → Contains (map f xs) (f x)
contains_map f xs x (k, below, e) = let long =
    length-map xs f in (k, omega (arith, below, long), get_or-map f xs k x (f x) below ∙ ap f e)

-- an element of a mapped list comes from one of the list
pub mapped_from : {X Y : Type 0} (f : X → Y) (xs : List X) (y : Y) → Contains (map f xs) y →
    (x : X) × Contains xs x × (f x ≡ y)
mapped_from f [] y (k, below, is) = absurd (omega (arith, below))
mapped_from f (x ∷ xs) y (zero, below, is) = (x, (0, omega arith, refl), is)
mapped_from f (x ∷ xs) y (suc k, below, is) =
    let r = mapped_from f xs y (k, omega (arith, below), is) in
    let c = r.1 in
    (r.0, (suc c.0, (let b = c.1 in omega (arith, b)), c.2), r.2)

pub contains_listed : (v : ℕ) (xs : List ℕ) → list_any (λ x. x == v) xs ≡ true → Contains xs v
contains_listed v [] h = cc
contains_listed v (x ∷ xs) h = elim (or_cases (x == v) (list_any (λ z. z == v) xs) h) [
  | inl here ↦ (0, omega arith, eqb-true x v here)
  | inr later ↦ (let r = contains_listed v xs later in let b = r.1 in (suc r.0, omega arith, r.2))
]

behind : {Y : Type 0} (o : Option Y) (ys : List Y) (y : Y) → Contains ys y → Contains (cons_option o ys) y
behind None ys y has = has
behind (Some z) ys y (k, below, at) = (suc k, omega (arith, below), at)

pub contains-filter_map : {X Y : Type 0} (h : X → Option Y) (xs : List X) (x : X) (y : Y) → Contains xs x → h x ≡ Some y →
    Contains (filter_map h xs) y
contains-filter_map h [] x y (k, below, is) passes = absurd (omega (arith, below))
contains-filter_map h (z ∷ xs) x y (zero, below, is) passes =
    subst (λ o. Contains (cons_option o (filter_map h xs)) y) (sym (ap h is ∙ passes)) (0, omega arith, refl)
contains-filter_map h (z ∷ xs) x y (suc k, below, is) passes =
    behind (h z) (filter_map h xs) y (contains-filter_map h xs x y (k, omega (arith, below), is) passes)

at_head : {X : Type 0} (x : X) (rest : List X) (b : Bool) → b ≡ true → Contains (cond b (x ∷ rest) rest) x
at_head x rest true by = (0, omega arith, refl)
at_head x rest false by = cc

behind_head : {X : Type 0} (x y : X) (rest : List X) (b : Bool) → Contains rest x → Contains (cond b (y ∷ rest) rest) x
behind_head x y rest true (k, below, is) = (suc k, omega (arith, below), is)
behind_head x y rest false found = found

pub filter_keeps : {X : Type 0} (p : X → Bool) (xs : List X) (x : X) → p x ≡ true → Contains xs x →
    Contains (filter p xs) x
filter_keeps p [] x by (k, below, is) = absurd (omega arith)
filter_keeps p (y ∷ ys) x by (zero, below, is) =
    subst (Contains (filter p (y ∷ ys))) is (at_head y (filter p ys) (p y) (ap p is ∙ by))
filter_keeps p (y ∷ ys) x by (suc k, below, is) =
    behind_head x y (filter p ys) (p y) (filter_keeps p ys x by (k, omega (arith, below), is))

first_or_behind : {Y : Type 0} (o : Option Y) (ys : List Y) (y : Y) → Contains (cons_option o ys) y →
    (o ≡ Some y) ⊎ Contains ys y
first_or_behind None ys y has = inr has
first_or_behind (Some z) ys y (zero, below, at) = inl (ap Some at)
first_or_behind (Some z) ys y (suc k, below, at) = inr (k, omega (arith, below), at)

-- what passes, and from what
pub filter_map-from : {X Y : Type 0} (h : X → Option Y) (xs : List X) (y : Y) → Contains (filter_map h xs) y →
    (x : X) × Contains xs x × (h x ≡ Some y)
filter_map-from h [] y (k, below, is) = absurd (omega (arith, below))
filter_map-from h (x ∷ xs) y has =
    elim (first_or_behind (h x) (filter_map h xs) y has) [
      | inl here ↦ (x, (0, omega arith, refl), here)
      | inr later ↦ (let r = filter_map-from h xs y later in let k = r.1.0 in let below = r.1.1 in
          (r.0, (suc k, omega (arith, below), r.1.2), r.2))
    ]

pub element_at : {X : Type 0} (xs : List X) (p : ℕ) (x : X) → slice_get xs p ≡ Some x → Contains xs x
element_at xs p x at = (p, slice_get_within xs p x at, get_or_from_slice_get xs p x x at)

pub last_or_inside : (xs : List ℕ) (x z : ℕ) → Contains (xs ++ x ∷ []) z → Contains xs z ⊎ (x ≡ z)
last_or_inside [] x z (zero, below, is) = inr is
last_or_inside [] x z (suc k, below, is) = absurd (omega (arith, below))
last_or_inside (w ∷ xs) x z (zero, below, is) = inl (0, omega arith, is)
last_or_inside (w ∷ xs) x z (suc k, below, is) = elim (last_or_inside xs x z (k, omega (arith, below), is)) [
  | inl there ↦ inl (let (j, b, at) = there in (suc j, omega (arith, b), at))
  | inr last ↦ inr last
]

pub place_within : (a n p : ℕ) → p < n → Contains (range_with_len a n) (a + p)
place_within a zero p h = absurd (omega arith)
place_within a (suc n) zero h = (0, omega arith, omega arith)
place_within a (suc n) (suc p) h =
    let e : a + 1 + p ≡ a + suc p = omega arith in
    let r = subst (Contains (range_with_len (a + 1) n)) e (place_within (a + 1) n p (omega arith)) in
    let b = r.1 in
    (suc r.0, omega arith, r.2)

pub contains_mapped : (h : ℕ → ℕ) (xs : List ℕ) (i : ℕ) → Contains xs i → Contains (map h xs) (h i)
contains_mapped h [] i (k, lt, at) = absurd (omega (arith, lt))
contains_mapped h (x ∷ xs) i (zero, lt, at) = (0, omega arith, ap h at)
contains_mapped h (x ∷ xs) i (suc k, lt, at) =
    let r = contains_mapped h xs i (k, omega (arith, lt), at) in
    let below = r.1 in
    (suc r.0, omega (arith, below), r.2)

-- what stands in the first part of a list without repetition does not stand in the second
pub in_one_part : (xs ys : List ℕ) (v : ℕ) → AllPairs (λ a b. a ≢ b) (xs ++ ys) → Contains xs v → Contains ys v → ⊥
in_one_part xs ys v once (i, i_in, ei) (j, j_in, ej) =
    let long = length-append xs ys in
    once i (length xs + j) v (omega (arith, i_in)) (omega (arith, j_in, long))
    (get_or-append xs ys v i i_in ∙ ei ∙ sym (get_or-append-add xs ys j v ∙ ej))

pub only_one : (p i : ℕ) → Contains (p ∷ []) i → p ≡ i
only_one p i (zero, below, is) = is
only_one p i (suc k, below, is) = absurd (omega (arith, below))

pub contains_later : {X : Type 0} (e x : X) (es : List X) → Contains es x → Contains (e ∷ es) x
contains_later e x es (k, below, is) = (suc k, (let b : suc k < suc (length es) = omega arith in b), is)

pub contains_first : {X : Type 0} (e : X) (es : List X) → Contains (e ∷ es) e
contains_first e es = (0, omega arith, refl)

pub no_element : (i : ℕ) → Contains [] i → ⊥
no_element i (k, lt, at) = omega (arith, lt)

pub contains-range_from_one : (n j : ℕ) → 1 ≤ j → j ≤ n → Contains (range_with_len 1 n) j
contains-range_from_one n j one last = subst (Contains (range_with_len 1 n)) (let e : 1 + (j - 1) ≡ j = omega (arith, one) in e)
    (place_within 1 n (j - 1) (omega (arith, one, last)))

pub all_from_contains : (P : ℕ → Type 0) (xs : List ℕ) → ((i : ℕ) → Contains xs i → P i) → All P xs
all_from_contains P xs each k d lt = each (get_or xs k d) (Contains-get_or xs k d lt)

pub one_mapped : (P : ℕ → Type 0) (g : ℕ → ℕ) (xs : List ℕ) (i : ℕ) → All P (map g xs) → Contains xs i → P (g i)
one_mapped P g xs i all (k, lt, at) =
    let there : get_or (map g xs) k (g i) ≡ g i = get_or-map g xs k i (g i) lt ∙ ap g at in
    subst P there (all k (g i) (rw (length-map xs g) lt))

pub place_of : {X : Type 0} (xs : List X) (x : X) → Contains xs x → (p : ℕ) × (slice_get xs p ≡ Some x)
place_of xs x (k, below, is) = (k, slice_get-get_or xs k x below ∙ ap Some is)

pub contains_cases : {X : Type 0} (e x : X) (es : List X) → Contains (e ∷ es) x → (e ≡ x) ⊎ Contains es x
contains_cases e x es (zero, below, is) = inl is
contains_cases e x es (suc k, below, is) = inr (k, (let b : k < length es = omega arith in b), is)

pub one_passes : {X : Type 0} (p : X → Bool) (xs : List X) (x : X) → Contains xs x → p x ≡ true → list_any p xs ≡ true
one_passes p xs x (k, below, is) pass = list_any_at p xs k x below (ap p is ∙ pass)

pub contained_at : {X : Type 0} (xs : List X) (i : ℕ) (d : X) → i < length xs → Contains xs (get_or xs i d)
contained_at xs i d below = (i, below, get_or_default xs i (get_or xs i d) d below)
