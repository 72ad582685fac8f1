-- What a unit's taking changes.
use Rattle.std.proofs.Common.{◌≡◌, ◌≢◌, ℕ, ◌<◌, ◌==◌, Bool, true, false, not, cond, inl, inr, List, [], ◌∷◌, length, get_or, set, Some, refl, sym, ◌∙◌, ap, subst, arith}
use Rattle.std.specs.Prelude.{slice_set}
use Rattle.std.specs.List.{All, Contains, filter, position}
use Rattle.std.proofs.lemmas.Bool.{true≢false, eqb-true, ne_eqb, or_left, cases_eq, cond-true, cond-false}
use Rattle.std.proofs.lemmas.List.{get_or-set_same, get_or-set_other}
use Rattle.std.proofs.lemmas.List.Elements.{All-filter, filter_passes, Contains-append_cases}
use Rattle.std.proofs.lemmas.List.Quantifiers.{position-Some}
use Rattle.list_laws.proofs.Members.{tested_inside}
use Rattle.list_laws.proofs.Truths.{not_true}
use Rattle.dq_lits.specs.Literal.{Literal, positive, negative, variable_of, opposite, is_negative}
use Rattle.dq_lits.specs.Formula.{Dqbf, IsWellFormed}
use Rattle.dq_lits.specs.Derivation.{holds, is_tautology}
use Rattle.dq_lits.proofs.SignedLiterals.{same_literal-refl, opposite-opposite, one_variable}
use Rattle.dq_formula.specs.Prefix.{existential_variables}
use Rattle.dq_lits.specs.declared.truth_values.TruthValue.{TruthValue}
use Rattle.dq_lits.specs.declared.truth_values.TruthValue.TheVariants.{True as TrueValue, False as FalseValue}
use Rattle.dq_prep.specs.declared.traces.Taken.{Taken}
use Rattle.dq_prep.specs.declared.roles.Role.TheVariants.{True, False}
use Rattle.dq_prep.specs.Reduction.{stays}
use Rattle.dq_prep.specs.Units.{taken_literals, without_false, left_of, IsUnit}
use Rattle.dq_prep.specs.Roles.{role_by, truth_role}
use Rattle.dq_prep.specs.Takings.{ValuesTell}
use Rattle.dq_prep.proofs.Units.{get-at}
use Rattle.dq_prep.proofs.WellFormed.{IsBound, all-left}
use Rattle.dq_prep.proofs.SignedLiterals.{not-same}

abbrev IsKept : List Literal → Literal → Type 0
IsKept trues l = not (holds trues (opposite l)) ≡ true

left-passes : (f : Dqbf) (trues clause : List Literal) → All (IsKept trues) (left_of f trues clause)
left-passes f trues clause = by (is_tautology rest)
  where
    rest : List Literal
    rest = without_false trues clause

    all-rest : All (IsKept trues) rest
    all-rest = filter_passes (λ l. not (holds trues (opposite l))) clause

    by : (b : Bool) → All (IsKept trues) (cond b rest (filter (stays f rest) rest))
    by true = all-rest
    by false = All-filter (stays f rest) (IsKept trues) rest all-rest

-- the negation of a unit's literal was not taken
pub unit-fresh : (f : Dqbf) (earlier : List Taken) (u : Taken) → IsUnit f earlier u
    → holds (taken_literals earlier) (opposite u.literal) ≡ false
unit-fresh f earlier u it =
    let trues = taken_literals earlier in
    let all : All (IsKept trues) (u.literal ∷ []) =
    subst (All (IsKept trues)) it.left (left-passes f trues it.clause) in
    not_true (holds trues (opposite u.literal)) (all 0 u.literal (omega arith))

-- a unit's literal is on an existential
pub unit-existential : (f : Dqbf) (earlier : List Taken) (u : Taken) → IsWellFormed f → IsUnit f earlier u
    → Contains (existential_variables f) (variable_of u.literal)
unit-existential f earlier u well it =
    let v = variable_of u.literal in
    let trues = taken_literals earlier in
    let at = get-at f.matrix u.place it.clause it.at in
    let bound : All (IsBound f) it.clause = rw (sym (at.1 [])) (well.bound u.place [] at.0) in
    let all : All (IsBound f) (u.literal ∷ []) =
    subst (All (IsBound f)) it.left (all-left f (IsBound f) trues it.clause bound) in
    elim (Contains-append_cases f.universals (existential_variables f) v (all 0 u.literal (omega arith))) [
      | inl universal ↦ absurd (true≢false (sym (tested_inside f.universals v universal) ∙ it.existential))
      | inr existential ↦ existential
    ]

abbrev pub value_of : Literal → TruthValue
value_of l = cond (not (is_negative l)) TrueValue FalseValue

own-role : (l : Literal) → role_by (value_of l) (is_negative l) ≡ True
own-role (positive v) = refl
own-role (negative v) = refl

other-role : (l : Literal) → role_by (value_of l) (is_negative (opposite l)) ≡ False
other-role (positive v) = refl
other-role (negative v) = refl

-- the value that a literal gives its variable
on-variable : (trues : List Literal) (k l : Literal) → variable_of k ≡ variable_of l
    → holds trues (opposite l) ≡ false
    → role_by (value_of l) (is_negative k) ≡ truth_role (l ∷ trues) k
on-variable trues k l same fresh =
    search (
      arith,
      one_variable,
      or_left,
      same_literal-refl,
      own-role,
      cond-true,
      not-same,
      other-role,
      opposite-opposite,
      cond-false,
    )

-- a literal of another variable is as it was
off-variable : (trues : List Literal) (k l : Literal) → variable_of k ≢ variable_of l
    → truth_role (l ∷ trues) k ≡ truth_role trues k
off-variable trues k l apart = search (arith, ne_eqb)

-- one more literal, with the value of its existential
pub values-told : (f : Dqbf) (trues : List Literal) (values : List TruthValue) (l : Literal) (place : ℕ)
    → ValuesTell f trues values → position (λ v. v == variable_of l) (existential_variables f) ≡ Some place
    → place < length values → holds trues (opposite l) ≡ false
    → ValuesTell f (l ∷ trues) (slice_set values place (value_of l))
values-told f trues values l place tell at below fresh k p d found = elim (cases_eq p place) [
  | inl same ↦
      let first = position-Some (λ v. v == variable_of k) (existential_variables f) p 0 found in
      let second = position-Some (λ v. v == variable_of l) (existential_variables f) place 0 at in
      let variables = existential_variables f in
      let one : variable_of k ≡ variable_of l =
      sym (eqb-true (get_or variables p 0) (variable_of k) first.1) ∙ ap (λ n. get_or variables n 0) same
      ∙ eqb-true (get_or variables place 0) (variable_of l) second.1 in
      ap (λ x. role_by x (is_negative k)) (ap (λ n. get_or (set values place (value_of l)) n d) same
      ∙ get_or-set_same values place (value_of l) d below)
      ∙ on-variable trues k l one fresh
  | inr other ↦
      let apart : variable_of k ≢ variable_of l = λ e.
      other (some-is (sym found ∙ ap (λ n. position (λ v. v == n) (existential_variables f)) e ∙ at)) in
      ap (λ x. role_by x (is_negative k)) (get_or-set_other values place p (value_of l) d other)
      ∙ tell k p d found ∙ sym (off-variable trues k l apart)
]
  where
    some-is : {a b : ℕ} → Some a ≡ Some b → a ≡ b
    some-is e = cc
