-- The role of a literal, by its existential's place.
use Rattle.std.proofs.Common.{◌≡◌, IsSome, subst, ℕ, suc, ◌<◌, ◌==◌, Bool, true, false, not, cond, inl, inr, List, [], ◌∷◌, length, get_or, Option, Some, None, refl, sym, ◌∙◌, ap, arith}
use Rattle.std.specs.Prelude.{slice_index_or}
use Rattle.std.specs.List.{All, Contains, find, position}
use Rattle.std.proofs.lemmas.Bool.{true≢false, eqb-true, cases_Bool, and_parts, cond-false, cond-true}
use Rattle.std.proofs.lemmas.List.{length-map, get_or-map}
use Rattle.std.proofs.lemmas.List.Elements.{Contains-append_cases, All-contains, All-filter, filter_passes}
use Rattle.std.proofs.lemmas.List.Quantifiers.{position-Some}
use Rattle.list_laws.proofs.Members.{contains_tested, tested_inside, in_one_part}
use Rattle.dq_lits.specs.Literal.{Literal, variable_of, opposite, is_negative}
use Rattle.dq_lits.specs.Formula.{Existential, Dqbf, declared, is_universal, existential_of, IsWellFormed}
use Rattle.dq_lits.specs.Derivation.{holds}
use Rattle.dq_formula.specs.Prefix.{existential_variables}
use Rattle.dq_formula.proofs.Subsets.{none_contained}
use Rattle.dq_formula.proofs.Entries.{is_some-find, list_any-map}
use Rattle.dq_lits.specs.declared.truth_values.TruthValue.{TruthValue}
use Rattle.dq_prep.specs.declared.roles.Role.{Role}
use Rattle.dq_prep.specs.declared.roles.Role.TheVariants.{Universal}
use Rattle.dq_prep.specs.Roles.{role_by, role_of, truth_role, is_open, open_literals}
use Rattle.dq_prep.specs.Takings.{ValuesTell}
use Rattle.dq_prep.specs.Reduction.{sees_in}
use Rattle.dq_prep.proofs.LeftLiterals.{UniversalsSeeNothing}
use Rattle.dq_prep.proofs.Remainders.{UniversalsAreSeen, Looked, clause-at}
use Rattle.dq_prep.specs.declared.traces.Taken.{Taken}
use Rattle.dq_prep.specs.Units.{AreUnits}

-- an existential is no universal
pub existential-apart : (f : Dqbf) (v : ℕ) → IsWellFormed f → Contains (existential_variables f) v
    → is_universal f v ≡ false
existential-apart f v well inside = elim (cases_Bool (is_universal f v)) [
  | inl universal ↦
      absurd (in_one_part f.universals (existential_variables f) v well.prefix.declared_once
      (contains_tested f.universals v universal) inside)
  | inr other ↦ other
]

pub placed : (xs : List ℕ) (v place : ℕ) → position (λ x. x == v) xs ≡ Some place → Contains xs v
placed xs v place found =
    let at = position-Some (λ x. x == v) xs place v found in
    (place, at.0, eqb-true (get_or xs place v) v at.1)

pub role-by-place : (f : Dqbf) (trues : List Literal) (values : List TruthValue) (l : Literal) (place : ℕ)
    (value : TruthValue) (sign : Bool) (role : Role) → IsWellFormed f → ValuesTell f trues values
    → position (λ v. v == variable_of l) (existential_variables f) ≡ Some place
    → value ≡ slice_index_or values place value → sign ≡ is_negative l → role ≡ role_by value sign
    → role ≡ role_of f trues l
role-by-place f trues values l place value sign role well tell found at signed is =
    is ∙ ap (role_by value) signed ∙ ap (λ x. role_by x (is_negative l)) at ∙ tell l place value found
    ∙ sym (cond-false (is_universal f (variable_of l)) Universal (truth_role trues l)
    (existential-apart f (variable_of l) well (placed (existential_variables f) (variable_of l) place found)))

pub role-of-unplaced : (f : Dqbf) (trues : List Literal) (l : Literal) → Contains (declared f) (variable_of l)
    → position (λ v. v == variable_of l) (existential_variables f) ≡ None → Universal ≡ role_of f trues l
role-of-unplaced f trues l bound none =
    let v = variable_of l in
    elim (Contains-append_cases f.universals (existential_variables f) v bound) [
      | inl universal ↦ sym
          (cond-true (is_universal f v) Universal (truth_role trues l) (tested_inside f.universals v universal))
      | inr existential ↦ absurd (none_contained (existential_variables f) v none existential)
    ]

-- what a search finds is in the list, and passes
pub find-Some : (p : Existential → Bool) (ys : List Existential) (y : Existential) → find p ys ≡ Some y
    → Contains ys y × (p y ≡ true)
find-Some p [] y h = cc
find-Some p (x ∷ xs) y h = by (p x) refl h (find-Some p xs y)
  where
    some-is : (a b : Existential) → Some a ≡ Some b → a ≡ b
    some-is a b e = cc

    by : (b : Bool) → p x ≡ b → cond b (Some x) (find p xs) ≡ Some y
        → (find p xs ≡ Some y → Contains xs y × (p y ≡ true)) → Contains (x ∷ xs) y × (p y ≡ true)
    by true e h later = let is = some-is x y h in ((0, omega arith, is), ap p (sym is) ∙ e)
    by false e h later = let r = later h in ((suc r.0.0, omega (arith, r.0.1), r.0.2), r.1)

-- no existential has a universal's variable
pub universals-see-nothing : (f : Dqbf) → IsWellFormed f → UniversalsSeeNothing f
universals-see-nothing f well l universal =
    search (arith, length-map, get_or-map, eqb-true, find-Some, true≢false, existential-apart)

-- an existential sees universals
pub universals-are-seen : (f : Dqbf) → IsWellFormed f → UniversalsAreSeen f
universals-are-seen f well y x sees = by (existential_of f y) refl sees
  where
    by : (o : Option Existential) → existential_of f y ≡ o → sees_in x o ≡ true → is_universal f x ≡ true
    by None e h = cc
    by (Some z) e h =
        let found = find-Some (λ q. q.variable == y) f.existentials z e in
        tested_inside f.universals x
        (All-contains (Contains f.universals) z.sees x
        (All-contains (λ q. All (Contains f.universals) q.sees) f.existentials z well.prefix.sees_universals found.0)
        (contains_tested z.sees x h))

-- an open literal of a clause is on an existential
pub open-existential : (f : Dqbf) (trues clause : List Literal) (l : Literal) → IsWellFormed f
    → All (λ k. Contains (declared f) (variable_of k)) clause → open_literals f trues clause ≡ l ∷ []
    → IsSome (existential_of f (variable_of l))
open-existential f trues clause l well bound open' =
    let v = variable_of l in
    let inside : 0 < length (open_literals f trues clause) = subst (λ ls. 0 < length ls) (sym open') (omega arith) in
    let at : get_or (open_literals f trues clause) 0 l ≡ l = ap (λ ls. get_or ls 0 l) open' in
    let passes : is_open f trues l ≡ true = ap (is_open f trues) (sym at)
    ∙ filter_passes (is_open f trues) clause 0 l inside in
    let Bound : Literal → Type 0 = λ k. Contains (declared f) (variable_of k) in
    let there = subst Bound at (All-filter (is_open f trues) Bound clause bound 0 l inside) in
    let not-universal = (and_parts (not (is_universal f v)) (not (holds trues (opposite l))) passes).0 in
    elim (Contains-append_cases f.universals (existential_variables f) v there) [
      | inl universal ↦ absurd (true≢false (sym not-universal ∙ ap not (tested_inside f.universals v universal)))
      | inr existential ↦
          is_some-find (λ y. y.variable == v) f.existentials
          ∙ sym (list_any-map (λ x. x == v) (λ y. y.variable) f.existentials)
          ∙ tested_inside (existential_variables f) v existential
    ]

-- a clause of the matrix is looked at
pub look : (f : Dqbf) (units : List Taken) (place : ℕ) (clause : List Literal) → IsWellFormed f → AreUnits f units
    → place < length f.matrix → clause ≡ slice_index_or f.matrix place [] → Looked f units place clause
look f units place clause well are within is = search (arith, universals-see-nothing, clause-at)
