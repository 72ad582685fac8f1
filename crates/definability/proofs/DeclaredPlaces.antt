-- Places among all declared variables: universals first, then existentials.
use Rattle.std.proofs.Common.{◌≡◌, ◌⊎◌, ℕ, zero, suc, ◌+◌, ◌<◌, ◌≤◌, Bool, inl, inr, List, [], ◌∷◌, ◌++◌, map, length, get_or, slice_get, Some, refl, sym, ◌∙◌, ap, subst, arith, set, ◌-◌, IsSome, IfSome}
use Rattle.std.specs.List.{All, Contains}
use Rattle.std.proofs.lemmas.List.{get_or_default, length-append, length-map}
use Rattle.std.proofs.lemmas.List.Elements.{All-contains, Contains-append_left, Contains-append_right, Contains-append_cases, Contains-push}
use Rattle.std.proofs.lemmas.Option.{slice_get_within, slice_get-get_or}
use Rattle.list_laws.proofs.Elements.{kept_there}
use Rattle.list_laws.proofs.Members.{element_at, place_of}
use Rattle.dq_lits.specs.Literal.{Literal}
use Rattle.dq_lits.specs.Formula.{Dqbf, Existential, declared, existential_of}
use Rattle.dq_lits.proofs.FormulaVariables.{find_sound, seen_as}
use Rattle.definition_order.specs.Order.{MayRead, ArePlacesOfShared}
use Rattle.dq_formula.specs.Prefix.{IsLawful, existential_variables}
use Rattle.hint_log.specs.Entries.{Entry}
use Rattle.definability.specs.Copies.{AreCopies, AreCopiesOf, IsCopied, copies_of}
use Rattle.definability.specs.Seeing.{ArePlaces, ArePlacesSoFar}
use Rattle.definability.specs.declared.copies.MatrixCopy.{MatrixCopy}
use Rattle.definability.proofs.CopiedVariables.{by_places, copy_at, named_length}
use Rattle.std.proofs.lemmas.Bool.{cases_lt}
use Rattle.definition_order.proofs.Declared.{sees_universals, some_existential}

pub declared_long : (f : Dqbf) → length (declared f) ≡ length f.universals + length f.existentials
declared_long f = search (arith, length-append, length-map)

pub at_second : {X : Type 0} (xs ys : List X) (p : ℕ) (y : X) → slice_get ys p ≡ Some y →
    slice_get (xs ++ ys) (length xs + p) ≡ Some y
at_second [] ys p y h = subst (λ k. slice_get ys k ≡ Some y) (let same : p ≡ 0 + p = omega arith in same) h
at_second (x ∷ xs) ys p y h = search (arith, (at_second xs ys p y h))

-- a place that is set in two lists, one behind the other
pub set_first : {X : Type 0} (xs ys : List X) (i : ℕ) (x : X) → i < length xs → set xs i x ++ ys ≡ set (xs ++ ys) i x
set_first [] ys i x below = absurd (omega (arith, below))
set_first (z ∷ xs) ys zero x below = refl
set_first (z ∷ xs) ys (suc i) x below = ap (λ zs. z ∷ zs) (set_first xs ys i x (omega (arith, below)))

pub set_second : {X : Type 0} (xs ys : List X) (i : ℕ) (x : X) → length xs ≤ i →
    xs ++ set ys (i - length xs) x ≡ set (xs ++ ys) i x
set_second [] ys i x past = let same : i - 0 ≡ i = omega arith in ap (λ k. set ys k x) same
set_second (z ∷ xs) ys zero x past = absurd (omega (arith, past))
set_second (z ∷ xs) ys (suc i) x past = search (arith, (set_second xs ys i x))

at_mapped : (ys : List Existential) (p : ℕ) (z : Existential) → slice_get ys p ≡ Some z →
    slice_get (map (λ y. y.variable) ys) p ≡ Some z.variable
at_mapped [] p z h = cc
at_mapped (y ∷ ys) zero z h = let same : y ≡ z = cc in ap (λ (e : Existential). Some e.variable) same
at_mapped (y ∷ ys) (suc p) z h = at_mapped ys p z h

pub copies_long : (es : List Entry) (side : ℕ) (xs : List ℕ) (lits : List Literal) → AreCopiesOf es side xs lits →
    length lits ≡ length xs
copies_long es side xs lits are = search (arith, named_length, length-map)

-- where an element of two lists, one behind the other, stands
pub joined_cases : {X : Type 0} (xs ys : List X) (k : ℕ) (x : X) → slice_get (xs ++ ys) k ≡ Some x →
    (slice_get xs k ≡ Some x) ⊎ ((j : ℕ) × (k ≡ length xs + j) × (slice_get ys j ≡ Some x))
joined_cases [] ys k x at = inr (k, omega arith, at)
joined_cases (z ∷ xs) ys zero x at = inl at
joined_cases (z ∷ xs) ys (suc k) x at = search (arith, (joined_cases xs ys k x at))

-- the copies of all declared variables
pub copies_declared : (f : Dqbf) (side : ℕ) (flags : List Bool) (copy : MatrixCopy) (es : List Entry) →
    AreCopies es side flags f.universals copy.universals.items →
    AreCopiesOf es side (existential_variables f) copy.existentials.items →
    AreCopies es side flags (declared f) (copies_of copy)
copies_declared f side flags copy es us ys =
    search (arith, length-append, copies_long, joined_cases, slice_get_within, copy_at)

-- where all have copies
pub whole_copies : (f : Dqbf) (side : ℕ) (flags : List Bool) (copy : MatrixCopy) (es : List Entry) →
    ((v : ℕ) → IsCopied f flags v) → AreCopies es side flags f.universals copy.universals.items →
    AreCopiesOf es side (existential_variables f) copy.existentials.items →
    AreCopiesOf es side (declared f) (copies_of copy)
whole_copies f side flags copy es whole us ys =
    search (arith, (copies_declared f side flags copy es us ys), (by_places es side))

mapped_back : (n : ℕ) (ps : List ℕ) (k : ℕ) → Contains (map (λ q. n + q) ps) k → (q : ℕ) × Contains ps q × (n + q ≡ k)
mapped_back n [] k (i, lt, at) = absurd (omega (arith, lt))
mapped_back n (p ∷ ps) k (zero, lt, at) = (p, (0, omega arith, refl), at)
mapped_back n (p ∷ ps) k (suc i, lt, at) = let r = mapped_back n ps k (i, omega (arith, lt), at) in
    (r.0, (suc r.1.0, (let b = r.1.1 in omega (arith, b)), r.1.2), r.2)

mapped_there : (n : ℕ) (ps : List ℕ) (q : ℕ) → Contains ps q → Contains (map (λ k. n + k) ps) (n + q)
mapped_there n [] q (i, lt, at) = absurd (omega (arith, lt))
mapped_there n (p ∷ ps) q (zero, lt, at) = (0, omega arith, ap (λ k. n + k) at)
mapped_there n (p ∷ ps) q (suc i, lt, at) = let r = mapped_there n ps q (i, omega (arith, lt), at) in let b = r.1 in
    (suc r.0, omega (arith, b), r.2)

-- the places of what a definition may read: those of what its existential sees, and those of
-- existentials that it shares
pub shared_are_places : (f : Dqbf) (ranks : List ℕ) → IsLawful f → (y : Existential) (seen shared places : List ℕ) →
    ArePlaces f.universals (Contains y.sees) seen → ArePlacesOfShared f ranks y shared →
    places ≡ seen ++ map (λ k. length f.universals + k) shared → ArePlaces (declared f) (MayRead f ranks y) places
shared_are_places f ranks lawful y seen shared places are_seen are_shared is =
    subst (ArePlaces (declared f) (MayRead f ranks y)) (sym is) (record {
      sound = λ p among. elim (Contains-append_cases seen (map (λ k. length f.universals + k) shared) p among) [
        | inl first ↦ (let r = are_seen.sound p first in (
          r.0,
          kept_there f.universals (existential_variables f) p r.0 r.1,
          inl r.2,
        ))
        | inr second ↦ (
            let q = mapped_back (length f.universals) shared p second in
            let z = (are_shared q.0).0 q.1 in
            let own : existential_of f z.0.variable ≡ Some z.0 =
            All-contains (λ e. existential_of f e.variable ≡ Some e) f.existentials z.0 lawful.named
            (element_at f.existentials q.0 z.0 z.1) in (
              z.0.variable,
              ap (slice_get (declared f)) (sym q.2) ∙ at_second f.universals
                  (existential_variables f) q.0 z.0.variable (at_mapped f.existentials q.0 z.0 z.1),
              inr (z.0, own, z.2),
            ))
      ];
      complete = λ x may. elim may [
        | inl among ↦ (let r = are_seen.complete x among in (
          r.0,
          kept_there f.universals (existential_variables f) r.0 x r.1,
          Contains-append_left seen _ r.0 r.2,
        ))
        | inr z ↦ (
            let found = find_sound x f.existentials z.0 z.1 in
            let q = place_of f.existentials z.0 found.0 in (
              length f.universals + q.0,
              at_second f.universals (existential_variables f) q.0 x
                  (at_mapped f.existentials q.0 z.0 q.1 ∙ ap Some found.1),
              Contains-append_right seen _ _ (mapped_there (length f.universals) shared q.0
                  ((are_shared q.0).1 (z.0, q.1, z.2))),
            ))
      ];
    })

pub shared_within : (f : Dqbf) (ranks : List ℕ) (y : Existential) (shared : List ℕ) →
    ArePlacesOfShared f ranks y shared → All (λ k. k < length f.existentials) shared
shared_within f ranks y shared are k d lt =
    let z = (are (get_or shared k d)).0 (k, lt, get_or_default shared k (get_or shared k d) d lt) in
    slice_get_within f.existentials (get_or shared k d) z.0 z.1

pub seen_among : (f : Dqbf) → IsLawful f → (v : ℕ) (xs : List ℕ) → IsSome (existential_of f v) →
    IfSome (existential_of f v) (λ y. xs ≡ y.sees) → All (Contains f.universals) xs
seen_among f lawful v xs is h = some_existential f v (All (Contains f.universals) xs) is (λ y found.
    subst (All (Contains f.universals)) (sym (seen_as f v xs h y found)) (sees_universals f lawful v y found))

pub no_places : (us xs : List ℕ) (places : List ℕ) → places ≡ [] → ArePlacesSoFar us xs 0 places
no_places us xs places empty = search arith

pub places_more : (us xs : List ℕ) (i x p : ℕ) (old new : List ℕ) → slice_get xs i ≡ Some x → slice_get us p ≡ Some x →
    new ≡ old ++ p ∷ [] → ArePlacesSoFar us xs i old →
    ArePlacesSoFar us xs (i + 1) new
places_more us xs i x p old new at there pushed before = subst (ArePlacesSoFar us xs (i + 1)) (sym pushed) (record {
  sound = λ q among. elim (Contains-append_cases old (p ∷ []) q among) [
    | inl early ↦ before.sound q early
    | inr last ↦ (let same = only p q last in (x, ap (slice_get us) (sym same) ∙ there, element_at xs i x at))
  ];
  complete = search (arith, cases_lt, Contains-append_left, Contains-push);
})
  where
    only : (p q : ℕ) → Contains (p ∷ []) q → p ≡ q
    only p q (zero, lt, at) = at
    only p q (suc k, lt, at) = absurd (omega (arith, lt))

pub all_places : (us xs sees : List ℕ) (i : ℕ) (places : List ℕ) → xs ≡ sees → length xs ≤ i →
    ArePlacesSoFar us xs i places → ArePlaces us (Contains sees) places
all_places us xs sees i places same all so_far = subst (λ ys. ArePlaces us (Contains ys) places) same (record {
  sound = so_far.sound;
  complete = λ x among. here x among;
})
  where
    here : (x : ℕ) → Contains xs x → (p : ℕ) × (slice_get us p ≡ Some x) × Contains places p
    here x (k, lt, at) = so_far.complete k x (omega (arith, lt, all)) (slice_get-get_or xs k x lt ∙ ap Some at)
