-- The numbers of pairs: one for each row and existential.
use Rattle.std.proofs.Common.{◌≡◌, ℕ, zero, suc, ◌+◌, ◌-◌, ◌*◌, ◌/◌, ◌%◌, ◌==◌, ◌≤◌, ◌<◌, ◌^◌, nat_lt, true, not, List, [], ◌∷◌, map, Option, Some, None, is_some, IsSome, refl, sym, ◌∙◌, ap, arith}
use Rattle.std.specs.List.{AllByRecursion, find}
use Rattle.std.proofs.Math.Nat.{div-add-mod, div-eq_of_lt, mod-eq_of_lt, mul-add-mod_self_right, mul-le-mul_left}
use Rattle.std.proofs.lemmas.Bool.{and_from, and_parts, eqb-true, lt-ltb, ltb-true, ne_eqb, not_from_false, cases_Bool}
use Rattle.std.proofs.lemmas.List.Elements.{recursion_from_All}
use Rattle.std.proofs.lemmas.Nat.{div-mul-add}
use Rattle.list_laws.proofs.Sequences.{all_behind}
use Rattle.list_laws.proofs.Truths.{nonzero}
use Rattle.dq_lits.specs.Formula.{Dqbf, Existential, existential_of}
use Rattle.dq_formula.specs.Prefix.{IsLawful}
use Rattle.cert_text.specs.Grammar.{IsPairNumber}
use Rattle.cert_text.specs.Header.{max_count}
use Rattle.cert_text.specs.Pairs.{is_pair_number}

abbrev IsVariable : ℕ → ℕ → Type 0
IsVariable variables v = (1 ≤ v) × (v ≤ variables)

found_in_range : (variables y : ℕ) (es : List Existential) →
    AllByRecursion (IsVariable variables) (map (λ e. e.variable) es) →
    IsSome (find (λ e. e.variable == y) es) → IsVariable variables y
found_in_range variables y [] all some = cc
found_in_range variables y (e ∷ es) all some =
    search (arith, cases_Bool, eqb-true, (found_in_range variables y es all.1))

pub existential_in_range : (f : Dqbf) (y : ℕ) → IsLawful f → IsSome (existential_of f y) → IsVariable f.variables y
existential_in_range f y lawful some = search (arith, found_in_range, all_behind, recursion_from_All)

record HasParts (f : Dqbf) (rows number : ℕ) : Type 0 where
  variables : 1 ≤ f.variables
  some : 1 ≤ number
  below : (number - 1) / f.variables < rows
  existential : is_some (existential_of f ((number - 1) % f.variables + 1)) ≡ true

parts : (f : Dqbf) (rows number : ℕ) → is_pair_number f rows number ≡ true → HasParts f rows number
parts f rows number h = search (arith, is_some, nat_lt, and_parts, nonzero, ltb-true)

is_something : {X : Type 0} (o : Option X) → is_some o ≡ true → IsSome o
is_something (Some x) h = refl
is_something None h = cc

pub pair_is : (f : Dqbf) (rows number : ℕ) → is_pair_number f rows number ≡ true → IsPairNumber f rows number
pair_is f rows number h =
    let p = parts f rows number h in
    record {
      k = (number - 1) / f.variables;
      y = (number - 1) % f.variables + 1;
      within = p.below;
      existential = is_something (existential_of f ((number - 1) % f.variables + 1)) p.existential;
      number_is = omega (arith, div-add-mod (number - 1) f.variables, p.some);
    }

something_is : {X : Type 0} (o : Option X) → IsSome o → is_some o ≡ true
something_is (Some x) h = refl
something_is None h = cc

pair_from : (f : Dqbf) (rows number v z k : ℕ) → f.variables ≡ v → z < v → k < rows → number ≡ k * v + suc z →
    IsSome (existential_of f (suc z)) →
    is_pair_number f rows number ≡ true
pair_from f rows number v z k v_is in_range within number_is existential =
    let place : number - 1 ≡ k * v + z = omega (arith, number_is) in
    let row : (number - 1) / f.variables ≡ k = ap (λ n. n / f.variables) place ∙ ap (λ n. (k * v + z) / n) v_is
    ∙ div-mul-add k v z in_range in
    let rest : (number - 1) % f.variables ≡ z =
    ap (λ n. n % f.variables) place ∙ ap (λ n. (k * v + z) % n) v_is ∙ mul-add-mod_self_right k v z
    ∙ mod-eq_of_lt in_range in
    let y : (number - 1) % f.variables + 1 ≡ suc z = omega (arith, rest) in
    and_from (not (f.variables == 0)) _ (not_from_false (f.variables == 0)
    (ne_eqb f.variables 0 (λ h. omega (arith, h, v_is, in_range))))
    (and_from (not (number == 0)) _ (not_from_false (number == 0) (ne_eqb number 0 (λ h. omega (arith, h, number_is))))
    (and_from (nat_lt ((number - 1) / f.variables) rows) _ (ap (λ n. nat_lt n rows) row ∙ lt-ltb k rows within)
    (ap (λ n. is_some (existential_of f n)) y ∙ something_is (existential_of f (suc z)) existential)))

is_of : (f : Dqbf) (rows number k y : ℕ) → IsLawful f → k < rows → IsSome (existential_of f y) →
    number ≡ k * f.variables + y →
    IsVariable f.variables y → is_pair_number f rows number ≡ true
is_of f rows number k zero lawful within existential number_is in_range = absurd (omega (arith, in_range.0))
is_of f rows number k (suc z) lawful within existential number_is in_range = search (arith, pair_from)

pub is_pair : (f : Dqbf) (rows number : ℕ) → IsLawful f → IsPairNumber f rows number →
    is_pair_number f rows number ≡ true
is_pair f rows number lawful p = search (arith, is_of, existential_in_range)

-- a text can spell it
pub pair_small : (f : Dqbf) (rows number : ℕ) → IsLawful f → rows ≤ max_count → is_pair_number f rows number ≡ true →
    number < 10 ^ 18
pair_small f rows number lawful few h = search (arith, pair_is, existential_in_range, mul-le-mul_left)

-- pairs of the first row
pub first_row : (place variables : ℕ) → place < variables → 0 ≡ place / variables
first_row place variables lt = sym (div-eq_of_lt lt)

pub first_place : (place variables : ℕ) → place < variables → place ≡ place % variables
first_place place variables lt = sym (mod-eq_of_lt lt)
