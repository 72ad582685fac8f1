-- Existentials in two columns, variables and dependency sets, against the list of both.
use Rattle.std.proofs.Common.{◌≡◌, ℕ, zero, suc, ◌+◌, ◌≤◌, false, cond, List, [], ◌∷◌, ◌++◌, length, min, map, replicate, refl, ap, sym, ◌∙◌, arith, eqb, slice_get, Some}
use Rattle.std.proofs.lemmas.Map.Keys.{IsDistinct-head, IsDistinct-tail}
use Rattle.std.proofs.lemmas.Map.Made.{keys_of-zip}
use Rattle.std.proofs.lemmas.Slice.Zip.{seconds-zip, length-zip}
use Rattle.std.proofs.lemmas.List.{length-map}
use Rattle.std.specs.List.{zip, position_or_len, IsDistinct, AllByRecursion}
use Rattle.std.specs.Option.{IfSome}
use Rattle.std.specs.Map.{keys_of, values_of, lookup}
use Rattle.list_laws.proofs.Numbers.{eqb-flip}
use Rattle.number_tables.specs.Numbers.{has_number, with_number}
use Rattle.dq_formula.specs.declared.dependencies.Deps.{Deps}
use Rattle.dq_formula.specs.declared.dependencies.Deps.TheVariants.{FirstOf}
use Rattle.dq_formula.specs.Dependencies.{dependencies}
use Rattle.dq_formula.specs.Layout.{existential, unseeing_entry}

pub keys : (ks : List ℕ) (vs : List Deps) → length vs ≡ length ks → keys_of (zip ks vs) ≡ ks
keys ks vs as_many = keys_of-zip ks vs as_many

pub values : (ks : List ℕ) (vs : List Deps) → length vs ≡ length ks → values_of (zip ks vs) ≡ vs
values ks vs as_many = seconds-zip ks vs as_many

onward : (vs : List Deps) (v : Deps) (n : ℕ) → slice_get (v ∷ vs) (1 + n) ≡ slice_get vs n
onward vs v n = let e : 1 + n ≡ suc n = omega arith in ap (slice_get (v ∷ vs)) e

-- the set of a variable stands where the variable does
pub set_there : (y : ℕ) (es : List (ℕ × Deps)) → lookup (eqb y) es ≡ slice_get (values_of es)
    (position_or_len (λ k. eqb k y) (keys_of es))
set_there y [] = refl
set_there y (e ∷ es) = search (arith, (set_there y es), eqb-flip, onward)

pub zip-append : (ks : List ℕ) (vs : List Deps) (more : List ℕ) (sets : List Deps) → length vs ≡ length ks →
    zip (ks ++ more) (vs ++ sets) ≡ zip ks vs ++ zip more sets
zip-append [] [] more sets as_many = refl
zip-append [] (v ∷ vs) more sets as_many = cc
zip-append (k ∷ ks) [] more sets as_many = cc
zip-append (k ∷ ks) (v ∷ vs) more sets as_many = search (arith, (zip-append ks vs more sets))

pub zip-unseeing : (more : List ℕ) → zip more (replicate (length more) (FirstOf 0)) ≡ map unseeing_entry more
zip-unseeing [] = refl
zip-unseeing (k ∷ ks) = ap (λ rest. unseeing_entry k ∷ rest) (zip-unseeing ks)

pub as_long : (ks : List ℕ) (vs : List Deps) → length vs ≡ length ks → length (zip ks vs) ≡ length vs
as_long ks vs as_many = length-zip ks vs ∙ rw as_many (min_same (length ks))
  where
    min_same : (n : ℕ) → min n n ≡ n
    min_same n = omega arith

pub columns_long : (es : List (ℕ × Deps)) → length (values_of es) ≤ length (keys_of es)
columns_long es = omega (arith, length-map es (λ (e : ℕ × Deps). e.0), length-map es (λ (e : ℕ × Deps). e.1))

pub with_absent : (xs : List ℕ) (n : ℕ) → has_number xs n ≡ false → with_number xs n ≡ xs ++ n ∷ []
with_absent xs n absent = ap (λ b. cond b xs (xs ++ n ∷ [])) absent

-- of distinct numbers each one is new behind those before it
middle : (P : ℕ → Type 0) (xs : List ℕ) (x : ℕ) (rest : List ℕ) → AllByRecursion P (xs ++ x ∷ rest) → P x
middle P [] x rest all = all.0
middle P (y ∷ xs) x rest all = middle P xs x rest all.1

pub new_here : (xs : List ℕ) (x : ℕ) (rest : List ℕ) → IsDistinct eqb (xs ++ x ∷ rest) → has_number xs x ≡ false
new_here [] x rest distinct = refl
new_here (y ∷ xs) x rest distinct =
    let apart : eqb y x ≡ false = middle (λ w. eqb y w ≡ false) xs x rest
    (IsDistinct-head eqb y (xs ++ x ∷ rest) distinct) in
    rw apart (new_here xs x rest (IsDistinct-tail eqb y (xs ++ x ∷ rest) distinct))

front : (P : ℕ → Type 0) (xs ys : List ℕ) → AllByRecursion P (xs ++ ys) → AllByRecursion P xs
front P [] ys all = tt
front P (x ∷ xs) ys all = (all.0, front P xs ys all.1)

pub distinct_left : (xs ys : List ℕ) → IsDistinct eqb (xs ++ ys) → IsDistinct eqb xs
unfolding IsDistinct
distinct_left [] ys distinct = tt
distinct_left (x ∷ xs) ys distinct = (front (λ w. eqb x w ≡ false) xs ys distinct.0, distinct_left xs ys distinct.1)

-- the set at a place is that of the existential there
pub at_place : (us : List ℕ) (es : List (ℕ × Deps)) (place : ℕ) (set : Deps) → slice_get (values_of es) place ≡ Some set
    → IfSome (slice_get (map (existential us) es) place) (λ e. dependencies us set ≡ e.sees)
at_place us [] place set is = cc
at_place us (e ∷ es) zero set is = let same : e.1 ≡ set = cc in ap (dependencies us) (sym same)
at_place us (e ∷ es) (suc place) set is = at_place us es place set is
