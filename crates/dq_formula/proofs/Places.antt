-- Places of distinct numbers in a list, and the elements at rising places.
use Rattle.std.proofs.Common.{◌≡◌, ℕ, ◌+◌, ◌-◌, ◌≤◌, ◌<◌, ◌≢◌, Bool, true, false, List, [], ◌∷◌, length, map, get_or, refl, sym, ◌∙◌, arith, eqb, None, Some, filter, Contains, true≢false, position}
use Rattle.std.proofs.lemmas.Bool.{eqb-true, eq-eqb, lt-ltb, cases_lt}
use Rattle.std.proofs.lemmas.Bool.Decides.{nat_tests}
use Rattle.std.proofs.lemmas.List.{get_or_default, length-map}
use Rattle.std.proofs.lemmas.Map.Keys.{apart_from_distinct, IsDistinct-head, IsDistinct-tail}
use Rattle.std.proofs.lemmas.List.Quantifiers.{position-Some}
use Rattle.std.proofs.lemmas.List.Folds.{Any-from_list_any, list_any-from_Any}
use Rattle.std.proofs.lemmas.List.Sums.{position_or_len_is, prefix_len-le-length}
use Rattle.std.proofs.lemmas.List.Elements.{All-from_recursion}
use Rattle.std.specs.List.{list_any, AllByRecursion, IsDistinct, position_or_len}
use Rattle.std.specs.List.Sorted.{IsNonDecreasingBy}
use Rattle.list_laws.proofs.Numbers.{eqb-flip}
use Rattle.dq_lits.specs.Formula.{Dqbf}
use Rattle.dq_formula.specs.Prefix.{existential_variables}

abbrev pub place : List ℕ → ℕ → ℕ
place xs x = position_or_len (λ u. eqb u x) xs

abbrev pub has : List ℕ → ℕ → Bool
has xs u = list_any (λ x. eqb x u) xs

-- a look-up by key tests the key sought against the one there, the other way round
pub flip : (x : ℕ) → eqb x ≡ (λ (u : ℕ). eqb u x)
flip x = λ i u. eqb-flip x u i

-- where a search finds nothing
pub place-absent : (p : ℕ → Bool) (xs : List ℕ) → position p xs ≡ None → position_or_len p xs ≡ length xs
place-absent p xs none = search (arith, prefix_len-le-length, lt-ltb, cases_lt)

-- where it finds the element
pub place-found : (xs : List ℕ) (x i : ℕ) → position (λ u. eqb u x) xs ≡ Some i → (place xs x ≡ i) × (has xs x ≡ true)
place-found xs x i found =
    search (arith, position-Some, position_or_len_is, list_any-from_Any, (get_or_default xs i (get_or xs i 0) 0))

-- of distinct numbers each one stands at its own place
pub place-get_or : (xs : List ℕ) (i d : ℕ) → IsDistinct eqb xs → i < length xs → place xs (get_or xs i d) ≡ i
place-get_or xs i d distinct l =
    position_or_len_is (λ u. eqb u (get_or xs i d)) xs i d (omega arith)
    (λ k below. apart_from_distinct eqb xs k i d distinct below l)
    (λ _. eq-eqb (get_or xs i d) (get_or xs i d) refl)

pub place-rises : (xs : List ℕ) → IsDistinct eqb xs → IsNonDecreasingBy (place xs) xs
place-rises xs distinct i j d le l = search (arith, place-get_or)

-- places that rise from `low` on and stay below `high`
abbrev pub Rise : ℕ → ℕ → List ℕ → Type 0
Rise low high [] = Unit {0}
Rise low high (p ∷ ps) = (low ≤ p) × (p < high) × Rise (p + 1) high ps

pub Rise-earlier : (low lower high : ℕ) (ps : List ℕ) → lower ≤ low → Rise low high ps → Rise lower high ps
Rise-earlier low lower high [] le h = tt
Rise-earlier low lower high (p ∷ ps) le h = (omega (arith, h.0), h.1, h.2)

pub ne-false : (a b : ℕ) → a ≢ b → eqb a b ≡ false
ne-false a b other = grind (arith, nat_tests)

false-ne : (a b : ℕ) → eqb a b ≡ false → a ≢ b
false-ne a b e same = true≢false (sym (eq-eqb a b same) ∙ e)

-- a number that no element equals isn't among them
pub has-none : (xs : List ℕ) (u : ℕ) → AllByRecursion (λ y. eqb u y ≡ false) xs → has xs u ≡ false
has-none [] u h = refl
has-none (x ∷ xs) u h = rw (eqb-flip x u, h.0) (has-none xs u h.1)

-- a test that only a list without the element decides
pub filter-cons_other : (u : ℕ) (vs xs : List ℕ) → AllByRecursion (λ y. eqb u y ≡ false) xs →
    filter (has (u ∷ vs)) xs ≡ filter (has vs) xs
filter-cons_other u vs [] h = refl
filter-cons_other u vs (x ∷ xs) h = rw (h.0, filter-cons_other u vs xs h.1) refl

-- the elements at the places, where the list stands behind `low` others
abbrev pub at : List ℕ → ℕ → List ℕ → List ℕ
at us low ps = map (λ p. get_or us (p - low) 0) ps

at-shift : (u : ℕ) (us : List ℕ) (low high : ℕ) (ps : List ℕ) → Rise (low + 1) high ps →
    at (u ∷ us) low ps ≡ at us (low + 1) ps
at-shift u us low high [] h = refl
at-shift u us low high (p ∷ ps) h = search (arith, (at-shift u us low high ps), Rise-earlier)

at-apart : (u : ℕ) (us : List ℕ) (low : ℕ) (ps : List ℕ) → AllByRecursion (λ y. eqb u y ≡ false) us →
    Rise low (low + length us) ps → AllByRecursion (λ y. eqb u y ≡ false) (at us low ps)
at-apart u us low [] a h = tt
at-apart u us low (p ∷ ps) a h = search (arith, All-from_recursion, (at-apart u us low ps a), Rise-earlier)

-- the elements at rising places are those that are among them, in order
pub at-filter : (us : List ℕ) (low : ℕ) (ps : List ℕ) → IsDistinct eqb us → Rise low (low + length us) ps →
    at us low ps ≡ filter (has (at us low ps)) us
at-filter [] low [] d h = refl
at-filter [] low (p ∷ ps) d h = absurd (omega (arith, h.0, h.1))
at-filter (u ∷ us) low [] d h = at-filter us (low + 1) [] (IsDistinct-tail eqb u us d) tt
at-filter (u ∷ us) low (p ∷ ps) d h =
    search (
      arith,
      (at-filter us (low + 1) ps),
      (IsDistinct-tail eqb u us d),
      (at-filter us (low + 1) (p ∷ ps)),
      (eqb-true p low),
      (Rise-earlier (p + 1) (low + 1) (low + length (u ∷ us)) ps),
      (at-shift u us low (low + 1 + length us) ps),
      (eq-eqb u u),
      (filter-cons_other u),
      (IsDistinct-head eqb u us d),
      (false-ne p low),
      (at-shift u us low (low + 1 + length us) (p ∷ ps)),
      has-none,
      (at-apart u us (low + 1) (p ∷ ps) (IsDistinct-head eqb u us d)),
    )

pub has-contains : (us : List ℕ) (x : ℕ) → Contains us x → has us x ≡ true
has-contains us x h = list_any-from_Any (λ u. eqb u x) us (h.0, x, h.1, h.2, eq-eqb x x refl)

pub contains-has : (us : List ℕ) (x : ℕ) → has us x ≡ true → Contains us x
contains-has us x h = search (arith, Any-from_list_any, get_or_default, eqb-true)

pub existential_below : (f : Dqbf) (vs : List ℕ) (place : ℕ) → vs ≡ existential_variables f → place < length vs →
    place < length f.existentials
existential_below f vs place are below = search (arith, length-map)
