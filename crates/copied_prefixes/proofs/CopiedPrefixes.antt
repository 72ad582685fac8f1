-- A prefix that is copied, variable by variable.
use Rattle.std.proofs.Common.{◌≡◌, ◌≢◌, ℕ, zero, suc, ◌+◌, ◌-◌, ◌<◌, ◌≤◌, ◌==◌, max, Bool, true, false, inl, inr, List, [], ◌∷◌, ◌++◌, take, length, get_or, slice_get, Option, Some, None, IfSome, is_some, refl, sym, ◌∙◌, ap, subst, arith}
use Rattle.std.specs.List.{All, AllPairs, Contains, list_any, filter}
use Rattle.std.proofs.lemmas.Bool.{cases_lt, cases_Bool}
use Rattle.std.proofs.lemmas.List.{get_or_default, take_more, take-map, length-take-le, get_or-take, length-map, length-append, get_or-map, get_or-append_right, get_or_append_left}
use Rattle.std.proofs.lemmas.List.Elements.{All-push, All-contains, Contains-append_cases}
use Rattle.list_laws.proofs.Folds.{filter-wider}
use Rattle.dq_lits.specs.Formula.{Existential, Dqbf, declared, is_universal, existential_of}
use Rattle.dq_formula.specs.Dependencies.{listed_universals}
use Rattle.dq_formula.specs.Prefix.{IsLawful, is_declared, existential_variables}
use Rattle.dq_formula.proofs.Lawful.{take-filter}
use Rattle.dq_formula.proofs.Places.{contains-has, has-contains}
use Rattle.dq_formula.proofs.Subsets.{distinct_universals}
use Rattle.copied_prefixes.specs.Prefixes.{begun, IsBegun, IsAt, SeesAmong}

-- an element at a place is among the first ones
among : (us : List ℕ) (p end x : ℕ) → slice_get us p ≡ Some x → p < end → Contains (take end us) x
among [] p end x at below = cc
among (u ∷ us) zero (suc end) x at below = (0, omega arith, some-is at)
  where
    some-is : Some u ≡ Some x → u ≡ x
    some-is e = cc
among (u ∷ us) (suc p) (suc end) x at below =
    let r = among us p end x at (omega arith) in (suc r.0, omega (arith, r.1), r.2)
among (u ∷ us) p zero x at below = absurd (omega arith)

pub more-among : (us : List ℕ) (a b x : ℕ) → a ≤ b → Contains (take a us) x → Contains (take b us) x
more-among [] a b x le h = none a h
  where
    none : (n : ℕ) → Contains (take n []) x → Contains (take b []) x
    none zero h = absurd (omega (arith, h.1))
    none (suc n) h = absurd (omega (arith, h.1))
more-among (u ∷ us) zero b x le h = absurd (omega (arith, h.1))
more-among (u ∷ us) (suc a) zero x le h = absurd (omega arith)
more-among (u ∷ us) (suc a) (suc b) x le (zero, below, is) = (0, omega arith, is)
more-among (u ∷ us) (suc a) (suc b) x le (suc k, below, is) =
    let r = more-among us a b x (omega arith) (k, omega (arith, below), is) in (suc r.0, omega (arith, r.1), r.2)

-- one more of a set's universals
pub reach-more : (us xs : List ℕ) (end i x p : ℕ) → All (Contains (take end us)) (take i xs) → i < length xs
    → x ≡ get_or xs i x → slice_get us p ≡ Some x
    → All (Contains (take (max end (p + 1)) us)) (take (i + 1) xs)
reach-more us xs end i x p all below is at =
    let wider = max end (p + 1) in
    let before : All (Contains (take wider us)) (take i xs) =
    λ k d l. more-among us end wider (get_or (take i xs) k d) (omega arith) (all k d l) in
    let here : Contains (take wider us) x = among us p wider x at (omega arith) in
    subst (All (Contains (take wider us))) (sym (take_more xs i x below ∙ ap (λ y. take i xs ++ y ∷ []) (sym is)))
    (All-push (Contains (take wider us)) (take i xs) x before here)

pub place-small : (us : List ℕ) (p x : ℕ) → slice_get us p ≡ Some x → p < length us
place-small [] p x at = cc
place-small (u ∷ us) zero x at = omega arith
place-small (u ∷ us) (suc p) x at = omega (arith, place-small us p x at)

not-in : (xs : List ℕ) (v : ℕ) → (Contains xs v → ⊥) → list_any (λ x. x == v) xs ≡ false
not-in xs v absent = elim (cases_Bool (list_any (λ x. x == v) xs)) [
  | inl here ↦ absurd (absent (contains-has xs v here))
  | inr none ↦ none
]

-- a variable at a place behind those that were declared isn't one of them
fresh : (us vs : List ℕ) (n i m v : ℕ) → AllPairs (λ x y. x ≢ y) (us ++ vs) → n ≤ length us → i ≤ length vs
    → n ≤ m → ((j : ℕ) → j < i → length us + j ≢ m) → m < length us + length vs → get_or (us ++ vs) m v ≡ v
    → list_any (λ x. x == v) (take n us ++ take i vs) ≡ false
fresh us vs n i m v once few some behind apart within is =
    not-in (take n us ++ take i vs) v
    (λ inside. elim (Contains-append_cases (take n us)
    (take i vs) v inside) [ inl early ↦ first early | inr late ↦ second late ])
  where
    whole : length (us ++ vs) ≡ length us + length vs
    whole = length-append us vs

    differ : (k : ℕ) → k < length us + length vs → k ≢ m → get_or (us ++ vs) k v ≡ v → ⊥
    differ k inside other e = elim (cases_lt k m) [
      | inl before ↦ once k m v before (omega (arith, whole)) (e ∙ sym is)
      | inr after ↦ once m k v (omega (arith, other)) (omega (arith, whole)) (is ∙ sym e)
    ]

    first : Contains (take n us) v → ⊥
    first (k, below, e) =
        let small : k < n = omega (arith, length-take-le n us few, below) in
        differ k (omega arith) (omega arith)
        (get_or_append_left us vs v k (omega arith) ∙ sym (get_or-take n us k v small) ∙ e)

    second : Contains (take i vs) v → ⊥
    second (j, below, e) =
        let small : j < i = omega (arith, length-take-le i vs some, below) in
        let back : length us + j - length us ≡ j = omega arith in
        differ (length us + j) (omega arith) (apart j small)
        (get_or-append_right us vs (length us) (length us + j) v refl (omega arith) ∙ ap (λ k. get_or vs k v) back
        ∙ sym (get_or-take i vs j v small) ∙ e)

-- what a copy that is begun declares
begun-declared : (f g : Dqbf) → IsBegun f g
    → declared g ≡ take (length g.universals) f.universals ++ take (length g.existentials) (existential_variables f)
begun-declared f g is =
    ap declared is.same
    ∙ ap (λ ys. take (length g.universals) f.universals ++ ys)
    (sym (take-map (λ y. y.variable) (length g.existentials) f.existentials))

-- the next universal isn't declared yet
pub universal-fresh : (f g : Dqbf) (at : ℕ) → IsLawful f → IsBegun f g → length g.universals ≡ at
    → at < length f.universals → is_declared g (get_or f.universals at 0) ≡ false
universal-fresh f g at lawful is here below =
    let us = f.universals in
    let vs = existential_variables f in
    let v = get_or us at 0 in
    let some : length g.existentials ≤ length vs =
    omega (arith, is.existentials, length-map f.existentials (λ y. y.variable)) in
    ap (list_any (λ x. x == v)) (begun-declared f g is)
    ∙ fresh us vs (length g.universals) (length g.existentials) at v lawful.prefix.declared_once is.universals some
    (omega arith) (λ j small. λ e. omega arith) (omega arith)
    (get_or_append_left us vs v at below ∙ get_or_default us at v 0 below)

-- nor is the next existential
pub existential-fresh : (f g : Dqbf) (place y : ℕ) → IsLawful f → IsBegun f g → length g.existentials ≡ place
    → place < length f.existentials → y ≡ get_or (existential_variables f) place y → is_declared g y ≡ false
existential-fresh f g place y lawful is here below at =
    let us = f.universals in
    let vs = existential_variables f in
    let long : length vs ≡ length f.existentials = length-map f.existentials (λ z. z.variable) in
    let back : length us + place - length us ≡ place = omega arith in
    ap (list_any (λ x. x == y)) (begun-declared f g is)
    ∙ fresh us vs (length g.universals) (length g.existentials) (length us + place) y lawful.prefix.declared_once
    is.universals (omega (arith, is.existentials, long)) (omega (arith, is.universals)) (λ j small. λ e. omega arith)
    (omega (arith, long))
    (get_or-append_right us vs (length us) (length us + place) y refl (omega arith) ∙ ap (λ k. get_or vs k y) back
    ∙ sym at)

pub sees-among : (f : Dqbf) (o : Option Existential) (end : ℕ) (xs : List ℕ) → IfSome o (λ e. xs ≡ e.sees)
    → All (Contains (take end f.universals)) xs → IfSome o (SeesAmong f end)
sees-among f None end xs is all = is
sees-among f (Some e) end xs is all = subst (All (Contains (take end f.universals))) is all

-- an existential is found by its variable
pub found-at : (f : Dqbf) (place y : ℕ) → IsLawful f → place < length f.existentials
    → y ≡ get_or (existential_variables f) place y
    → (e : Existential) × (existential_of f y ≡ Some e) × (e.variable ≡ y) × (get_or f.existentials place e ≡ e)
found-at f place y lawful below at =
    let nobody : Existential = record { variable = 0; sees = [] } in
    let e = get_or f.existentials place nobody in
    let names : e.variable ≡ y = sym (get_or-map (λ z. z.variable) f.existentials place nobody y below) ∙ sym at in (
      e,
      ap (existential_of f) (sym names)
          ∙ lawful.named place nobody below,
      names,
      get_or_default f.existentials place e nobody below,
    )

pub in-range : (f : Dqbf) (place y : ℕ) → IsLawful f → place < length f.existentials
    → y ≡ get_or (existential_variables f) place y → (1 ≤ y) × (y ≤ f.variables)
in-range f place y lawful below at =
    let us = f.universals in
    let vs = existential_variables f in
    let long : length vs ≡ length f.existentials = length-map f.existentials (λ z. z.variable) in
    let back : length us + place - length us ≡ place = omega arith in
    let there : get_or (us ++ vs) (length us + place) y ≡ y =
    get_or-append_right us vs (length us) (length us + place) y refl (omega arith) ∙ ap (λ k. get_or vs k y) back
    ∙ sym at in
    subst (λ v. (1 ≤ v) × (v ≤ f.variables)) there
    (lawful.prefix.in_range (length us + place) y (omega (arith, length-append us vs, long)))

-- one more existential
pub begun-more : (f g h : Dqbf) (place : ℕ) (e : Existential) → IsBegun f g → length g.existentials ≡ place
    → place < length f.existentials → get_or f.existentials place e ≡ e
    → h ≡ record g { existentials = g.existentials ++ e ∷ [] } → IsBegun f h × (length h.existentials ≡ place + 1)
begun-more f g h place e is here below at made =
    let ys = take (length g.existentials) f.existentials in
    let more : g.existentials ++ e ∷ [] ≡ take (place + 1) f.existentials =
    ap (λ q. q.existentials ++ e ∷ []) is.same ∙ ap (λ n. take n f.existentials ++ e ∷ []) here
    ∙ ap (λ x. take place f.existentials ++ x ∷ []) (sym at) ∙ sym (take_more f.existentials place e below) in
    let long : length h.existentials ≡ place + 1 =
    ap (λ q. length q.existentials) made ∙ length-append g.existentials (e ∷ []) ∙ omega (arith, here) in
    let Longer : Dqbf → Dqbf = λ q. record q { existentials = g.existentials ++ e ∷ [] } in
    let Whole : List Existential → Dqbf =
    λ zs. record (begun f (length g.universals) (length g.existentials)) { existentials = zs } in
    let wide : length h.universals ≡ length g.universals = ap (λ q. length q.universals) made in (
      record {
        universals = omega (arith, wide, is.universals);
        existentials = omega (arith, long);
        same =
            made ∙ ap Longer is.same
            ∙ ap Whole more
            ∙ ap (λ n. begun f n (place + 1)) (sym wide) ∙ ap (begun f (length h.universals)) (sym long);
      },
      long,
    )

-- a set whose members are declared is listed as it is
pub listed-whole : (f : Dqbf) (n end : ℕ) (e : Existential) → IsLawful f → n ≤ length f.universals → end ≤ n
    → e.sees ≡ listed_universals f.universals e.sees → SeesAmong f end e
    → listed_universals (take n f.universals) e.sees ≡ e.sees
listed-whole f n end e lawful few reach ordered among' =
    let us = f.universals in
    let p : ℕ → Bool = λ u. list_any (λ x. x == u) e.sees in
    let q : ℕ → Bool = λ u. list_any (λ x. x == u) (take n us) in
    ap (filter p) (take-filter n us (distinct_universals f lawful.prefix) few)
    ∙ filter-wider p q us (λ u inside.
    has-contains (take n us) u
    (more-among us end n u reach
    (All-contains (Contains (take end us)) e.sees u among' (contains-has e.sees u inside))))
    ∙ sym ordered

-- its members are declared
pub listed-declared : (f g : Dqbf) (end : ℕ) (e : Existential) → IsBegun f g → end ≤ length g.universals
    → SeesAmong f end e → All (λ x. is_universal g x ≡ true) e.sees
listed-declared f g end e is reach among' k d below =
    let us = f.universals in
    let n = length g.universals in
    ap (λ q. is_universal q (get_or e.sees k d)) is.same
    ∙ has-contains (take n us) (get_or e.sees k d) (more-among us end n (get_or e.sees k d) reach (among' k d below))

pub is-at : (f : Dqbf) (place y : ℕ) → IsLawful f → place < length f.existentials
    → y ≡ get_or (existential_variables f) place y → IsAt f place y
is-at f place y lawful below at =
    let r = found-at f place y lawful below at in
    let range = in-range f place y lawful below at in
    record {
      existential = r.0;
      found = r.1;
      named = r.2;
      stands = r.3;
      declared = ap is_some r.1;
      from_one = range.0;
      in_range = range.1;
    }

-- the one found
pub the-one : (o : Option Existential) (e : Existential) (P : Existential → Type 0) → o ≡ Some e → IfSome o P → P e
the-one None e P is held = cc
the-one (Some x) e P is held = subst P (some-is x e is) held
  where
    some-is : (a b : Existential) → Some a ≡ Some b → a ≡ b
    some-is a b e = cc

pub same-existential : (e : Existential) (y : ℕ) (xs : List ℕ) → e.variable ≡ y → xs ≡ e.sees
    → record { variable = y; sees = xs } ≡ e
same-existential e y xs names sees =
    let Made : ℕ → List ℕ → Existential = λ v zs. record { variable = v; sees = zs } in
    ap (λ v. Made v xs) (sym names) ∙ ap (Made e.variable) sees

-- the existential at a place isn't declared while those before it are
pub next-fresh : (f g : Dqbf) (y : ℕ) → IsLawful f → IsBegun f g → length g.existentials < length f.existentials
    → IsAt f (length g.existentials) y → is_declared g y ≡ false
next-fresh f g y lawful is below at =
    existential-fresh f g (length g.existentials) y lawful is refl below
    (sym at.named ∙ ap (λ e. e.variable) (sym at.stands)
    ∙ sym (get_or-map (λ z. z.variable) f.existentials (length g.existentials) at.existential y below))

-- or with a list
pub listed-next : (f g h : Dqbf) (y : ℕ) (xs : List ℕ) → IsLawful f → IsBegun f g
    → (at : IsAt f (length g.existentials) y) → length g.existentials < length f.existentials
    → IfSome (existential_of f y) (SeesAmong f (length g.universals))
    → IfSome (existential_of f y) (λ e. xs ≡ e.sees)
    → h ≡ record g {
      existentials = g.existentials ++ record { variable = y; sees = listed_universals g.universals xs } ∷ [];
    }
    → IsBegun f h × (length h.existentials ≡ length g.existentials + 1)
listed-next f g h y xs lawful is at below reach seen made =
    let e = at.existential in
    let n = length g.universals in
    let Added : Existential → Dqbf = λ x. record g { existentials = g.existentials ++ x ∷ [] } in
    let among' = the-one (existential_of f y) e (SeesAmong f n) at.found reach in
    let are = the-one (existential_of f y) e (λ x. xs ≡ x.sees) at.found seen in
    let ordered : e.sees ≡ listed_universals f.universals e.sees =
    subst (λ x. x.sees ≡ listed_universals f.universals x.sees) at.stands
    (lawful.ordered (length g.existentials) e below) in
    let sees : listed_universals g.universals xs ≡ e.sees =
    ap (listed_universals g.universals) are ∙ ap (λ q. listed_universals q.universals e.sees) is.same
    ∙ listed-whole f n n e lawful is.universals (omega arith) ordered among' in
    begun-more f g h (length g.existentials) e is refl below at.stands
    (made ∙ ap Added (same-existential e y (listed_universals g.universals xs) at.named sees))

pub next-listed : (f g : Dqbf) (y : ℕ) (xs : List ℕ) → IsBegun f g → (at : IsAt f (length g.existentials) y)
    → IfSome (existential_of f y) (SeesAmong f (length g.universals))
    → IfSome (existential_of f y) (λ e. xs ≡ e.sees) → All (λ x. is_universal g x ≡ true) xs
next-listed f g y xs is at reach seen =
    let e = at.existential in
    let among' = the-one (existential_of f y) e (SeesAmong f (length g.universals)) at.found reach in
    let are = the-one (existential_of f y) e (λ x. xs ≡ x.sees) at.found seen in
    subst (All (λ x. is_universal g x ≡ true)) (sym are)
    (listed-declared f g (length g.universals) e is (omega arith) among')

pub reach-wider : (f : Dqbf) (o : Option Existential) (a b : ℕ) → a ≤ b → IfSome o (SeesAmong f a)
    → IfSome o (SeesAmong f b)
reach-wider f None a b le all = all
reach-wider f (Some e) a b le all = λ k d below. more-among f.universals a b (get_or e.sees k d) le (all k d below)
