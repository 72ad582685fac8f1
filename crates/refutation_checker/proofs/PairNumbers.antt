-- The numbers of pairs.
use Rattle.std.proofs.Common.{◌≡◌, ℕ, ◌+◌, ◌-◌, ◌/◌, ◌%◌, ◌==◌, Bool, true, List, [], ◌∷◌, map, length, get_or, Option, None, Some, nat_lt, refl, sym, ◌∙◌, ap, ap₂, arith}
use Rattle.std.specs.List.{find, filter_map}
use Rattle.std.proofs.lemmas.Bool.{cases_Bool, eqb-true, and_parts, ltb-true}
use Rattle.std.proofs.lemmas.Option.{slice_get-get_or}
use Rattle.dq_lits.specs.Expansion.{pair_number, pair_literal}
use Rattle.dq_lits.specs.Formula.{Existential, Dqbf, existential_of}
use Rattle.dq_lits.specs.Literal.{Literal, variable_of, on_variable}
use Rattle.cert_text.specs.Pairs.{is_pair_number}
use Rattle.refutation_checker.specs.Refutation.{normal_number}
use Rattle.refutation_checker.specs.Pairs.{pair_of, existential_part}

-- the existential of a variable stands on it
found_variable : (es : List Existential) (v : ℕ) (e : Existential) → find (λ y. y.variable == v) es ≡ Some e →
    e.variable ≡ v
found_variable [] v e found = cc
found_variable (y ∷ es) v e found = search (arith, cases_Bool, eqb-true, (found_variable es v e))

-- the pair's number is that of its existential
pub pair_number_is : (f : Dqbf) (rows : List (List Bool)) (row : List Bool) (v : ℕ) (e : Existential) →
    existential_of f v ≡ Some e
    → pair_number f rows row e ≡ pair_of f rows row v
pair_number_is f rows row v e found = search (arith, found_variable)

-- the number that a line may name a pair by
pub named_is : (f : Dqbf) (rows : List (List Bool)) (number : ℕ) → is_pair_number f (length rows) number ≡ true
    → normal_number f rows number ≡ pair_of f rows (get_or rows ((number - 1) / f.variables) [])
    ((number - 1) % f.variables + 1)
named_is f rows number h = search (arith, slice_get-get_or, ltb-true, and_parts, nat_lt, pair_number_is)

pub named_by : (f : Dqbf) (rows : List (List Bool)) (number variables k y : ℕ) → variables ≡ f.variables →
    k ≡ (number - 1) / variables → y ≡ (number - 1) % variables → is_pair_number f (length rows) number ≡ true
    → normal_number f rows number ≡ pair_of f rows (get_or rows k []) (y + 1)
named_by f rows number variables k y is k_is y_is h =
    named_is f rows number h
    ∙ ap₂ (λ k y. pair_of f rows (get_or rows k []) (y + 1)) (sym (k_is ∙ ap (λ w. (number - 1) / w) is))
    (sym (y_is ∙ ap (λ w. (number - 1) % w) is))

-- an instance's literals are those of the clause's existential part
pub instance_part : (f : Dqbf) (rows : List (List Bool)) (row : List Bool) (clause : List Literal)
    → filter_map (pair_literal f rows row) clause ≡ map (λ l. on_variable (pair_of f rows row (variable_of l)) l)
    (existential_part f clause)
instance_part f rows row [] = refl
instance_part f rows row (l ∷ clause) = by (existential_of f (variable_of l)) refl (instance_part f rows row clause)
  where
    by : (o : Option Existential) → existential_of f (variable_of l) ≡ o
        → filter_map (pair_literal f rows row) clause ≡ map (λ k. on_variable (pair_of f rows row (variable_of k)) k)
        (existential_part f clause)
        → filter_map (pair_literal f rows row) (l ∷ clause) ≡ map
        (λ k. on_variable (pair_of f rows row (variable_of k)) k) (existential_part f (l ∷ clause))
    by None found rest = rw found rest
    by (Some e) found rest = rw found (ap (λ n. on_variable n l ∷ filter_map (pair_literal f rows row) clause)
        (pair_number_is f rows row (variable_of l) e found) ∙ ap
        (λ ls. on_variable (pair_of f rows row (variable_of l)) l ∷ ls) rest)
