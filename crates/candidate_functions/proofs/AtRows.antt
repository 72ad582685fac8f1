-- Under a row of the table, with a model's bits at its pairs, a clause is true where its instance holds.
use Rattle.std.proofs.Common.{◌≡◌, ℕ, ◌+◌, Bool, true, List, [], ◌∷◌, ◌++◌, map, length, get_or, Option, None, Some, sym, ◌∙◌, ap, inl, inr, arith, refl, length-append}
use Rattle.std.specs.List.{Contains, list_any, filter_map, cons_option}
use Rattle.std.specs.Option.{option_map}
use Rattle.std.proofs.Math.ListN.{get_or-append}
use Rattle.std.proofs.lemmas.Bool.{or_cases, or_left, or_right, and_parts}
use Rattle.std.proofs.lemmas.List.{get_or-append-add, get_or-map, get_or_default, length-map}
use Rattle.list_laws.proofs.Members.{contains_listed}
use Rattle.dq_lits.specs.Literal.{Assignment, Literal, variable_of, on_variable, literal_true, clause_true}
use Rattle.dq_lits.specs.Formula.{Existential, Dqbf, is_universal, existential_of, HasLawfulPrefix}
use Rattle.dq_lits.specs.Expansion.{pair_number, pair_literal, universal_literal_true, instance_clause, InstanceHolds}
use Rattle.dq_lits.proofs.LiftedExpansion.{literal_true-agree}
use Rattle.dq_lits.proofs.FormulaVariables.{find_sound}
use Rattle.dq_lits.proofs.Truth.{literal_true-on_variable}
use Rattle.definition_order.proofs.Declared.{variable}
use Rattle.candidate_functions.specs.AtRow.{IsAtRow}

pub contains_mapped : (ys : List Existential) (y : Existential) → Contains ys y → Contains (map variable ys) y.variable
contains_mapped ys y (k, below, is) = (
  k,
  rw (length-map ys variable) below,
  get_or-map variable ys k y y.variable below ∙ ap variable is,
)

-- no existential is a universal
pub apart : (f : Dqbf) → HasLawfulPrefix f → (v : ℕ) (y : Existential) → existential_of f v ≡ Some y →
    is_universal f v ≡ true → ⊥
apart f lawful v y found universal =
    let us = f.universals in
    let es = map variable f.existentials in
    let own = find_sound v f.existentials y found in
    let u = contains_listed v us universal in
    let e = contains_mapped f.existentials y own.0 in
    let left : get_or (us ++ es) u.0 0 ≡ v = get_or-append us es 0 u.0 u.1 ∙ get_or_default us u.0 0 v u.1 ∙ u.2 in
    let right : get_or (us ++ es) (length us + e.0) 0 ≡ y.variable =
    get_or-append-add us es e.0 0 ∙ get_or_default es e.0 0 y.variable e.1 ∙ e.2 in
    lawful.declared_once u.0 (length us + e.0) 0 (let a = u.1 in omega arith)
    (let b = e.1 in omega (arith, length-append us es)) (left ∙ sym own.1 ∙ sym right)

-- what is fixed while a row of the table is looked at
abbrev pub AtRow : Dqbf → List (List Bool) → List Bool → Assignment → Assignment → Type 0
AtRow f rows row m n = IsAtRow f rows row m n

module _ (f : Dqbf) (rows : List (List Bool)) (row : List Bool) (m n : Assignment) (t : AtRow f rows row m n) where
  by_universal : (clause : List Literal) → list_any (universal_literal_true f row) clause ≡ true →
      clause_true n clause ≡ true
  by_universal [] h = h
  by_universal (l ∷ ls) h =
      search (arith, or_cases, and_parts, or_left, literal_true-agree, or_right, (by_universal ls))

  by_pair : (l : Literal) (ls : List Literal) (o : Option Existential) → existential_of f (variable_of l) ≡ o
      → (clause_true m (filter_map (pair_literal f rows row) ls) ≡ true → clause_true n ls ≡ true)
      → clause_true m (cons_option (option_map (λ y. on_variable (pair_number f rows row y) l) o)
      (filter_map (pair_literal f rows row) ls)) ≡ true → clause_true n (l ∷ ls) ≡ true
  by_pair l ls None found rest h = or_right (literal_true n l) (clause_true n ls) (rest h)
  by_pair l ls (Some y) found rest h =
      elim (or_cases (literal_true m (on_variable (pair_number f rows row y) l))
      (clause_true m (filter_map (pair_literal f rows row) ls)) h) [
        | inl here ↦ or_left (literal_true n l) (clause_true n ls)
            (sym (literal_true-on_variable m n (pair_number f rows row y) l
            (sym (t.existential (variable_of l) y found))) ∙ here)
        | inr later ↦ or_right (literal_true n l) (clause_true n ls) (rest later)
      ]

  by_instance : (clause : List Literal) → clause_true m (filter_map (pair_literal f rows row) clause) ≡ true →
      clause_true n clause ≡ true
  by_instance [] h = h
  by_instance (l ∷ ls) h = by_pair l ls (existential_of f (variable_of l)) refl (by_instance ls) h

  pub clause_holds : (clause : List Literal) → InstanceHolds m (instance_clause f rows row clause) →
      clause_true n clause ≡ true
  clause_holds clause h = search (arith, by_universal, by_instance)
