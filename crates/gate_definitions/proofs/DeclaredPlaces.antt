-- Where declared variables stand.
use Rattle.std.proofs.Common.{◌≡◌, ℕ, ◌+◌, ◌≤◌, ◌==◌, List, ◌++◌, length, Some, IsSome, None, position, arith, Contains}
use Rattle.std.specs.List.{position_or_len}
use Rattle.std.proofs.lemmas.Bool.{eq-eqb, ne_eqb}
use Rattle.std.proofs.lemmas.List.Elements.{All-contains, Contains-append_cases, Contains-append_right}
use Rattle.std.proofs.lemmas.List.Folds.{prefix_len-append}
use Rattle.dq_lits.specs.Formula.{Dqbf, declared, existential_of}
use Rattle.dq_formula.specs.Prefix.{IsLawful, existential_variables}
use Rattle.dq_formula.proofs.Places.{place-absent, place-found}
use Rattle.dq_formula.proofs.Sorted.{place-below}
use Rattle.dq_formula.proofs.Subsets.{none_contained}
use Rattle.definition_order.proofs.Declared.{is_variable}

pub placed_first : (us vs : List ℕ) (v p : ℕ) → position (λ u. u == v) us ≡ Some p →
    p ≡ position_or_len (λ w. w == v) (us ++ vs)
placed_first us vs v p found = search (arith, place-found, place-below, ne_eqb, prefix_len-append)

pub placed_second : (us vs : List ℕ) (v p : ℕ) → position (λ u. u == v) us ≡ None → position (λ w. w == v) vs ≡ Some p →
    length us + p ≡ position_or_len (λ w. w == v) (us ++ vs)
placed_second us vs v p none found = search (arith, place-found, eq-eqb, place-absent, prefix_len-append)

pub placed_nowhere : (us vs : List ℕ) (v : ℕ) → position (λ u. u == v) us ≡ None → position (λ w. w == v) vs ≡ None →
    Contains (us ++ vs) v → ⊥
placed_nowhere us vs v none none' among =
    search (arith, (Contains-append_cases us vs v among), (none_contained us v none), (none_contained vs v none'))

pub number_range : (f : Dqbf) → IsLawful f → (y : ℕ) → IsSome (existential_of f y) → (1 ≤ y) × (y ≤ 1000000)
number_range f lawful y is =
    let among = Contains-append_right f.universals (existential_variables f) y (is_variable f y is) in
    let range = All-contains (λ v. (1 ≤ v) × (v ≤ f.variables)) (declared f) y lawful.prefix.in_range among in
    let most = lawful.few_variables in
    (range.0, omega (arith, range.1, most))
