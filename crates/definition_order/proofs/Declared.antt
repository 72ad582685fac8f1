-- Existentials by their variables and by their places.
use Rattle.std.proofs.Common.{◌≡◌, ℕ, ◌+◌, ◌<◌, ◌==◌, List, [], ◌++◌, map, length, get_or, slice_get, Some, IsSome, position, refl, sym, ◌∙◌, ap, subst, inl, inr, arith, eq-eqb, length-append}
use Rattle.std.specs.List.{All, Contains, position_or_len}
use Rattle.std.proofs.lemmas.Bool.{cases_lt, eqb-true, ne_eqb}
use Rattle.std.proofs.lemmas.List.{get_or-append-add, get_or-map, length-map}
use Rattle.std.proofs.lemmas.List.Elements.{All-contains}
use Rattle.std.proofs.lemmas.List.Quantifiers.{position-Some}
use Rattle.std.proofs.lemmas.List.Sums.{position_or_len_is}
use Rattle.std.proofs.lemmas.Option.{slice_get_within, get_or_from_slice_get, slice_get-get_or}
use Rattle.list_laws.proofs.Members.{element_at}
use Rattle.dq_lits.specs.Formula.{Existential, Dqbf, existential_of, HasLawfulPrefix}
use Rattle.dq_lits.proofs.FormulaVariables.{find_sound}
use Rattle.dq_formula.specs.Prefix.{IsLawful, existential_variables}

abbrev pub variable : Existential → ℕ
variable y = y.variable

pub some_existential : (f : Dqbf) (v : ℕ) (P : Type 0) → IsSome (existential_of f v) →
    ((y : Existential) → existential_of f v ≡ Some y → P) → P
some_existential f v P is use_it = search arith

pub sees_universals : (f : Dqbf) → IsLawful f → (v : ℕ) (y : Existential) → existential_of f v ≡ Some y →
    All (Contains f.universals) y.sees
sees_universals f lawful v y found = All-contains (λ z. All (Contains f.universals) z.sees) f.existentials y
    lawful.prefix.sees_universals (find_sound v f.existentials y found).0

pub named_at : (f : Dqbf) → IsLawful f → (p : ℕ) (y : Existential) → slice_get f.existentials p ≡ Some y →
    existential_of f y.variable ≡ Some y
named_at f lawful p y at = search (arith, All-contains, element_at)

pub known_at : (f : Dqbf) → IsLawful f → (vs : List ℕ) (p : ℕ) (y : Existential) → vs ≡ existential_variables f →
    slice_get f.existentials p ≡ Some y → existential_of f (get_or vs p 0) ≡ Some y
known_at f lawful vs p y are at =
    search (arith, get_or, get_or-map, slice_get_within, get_or_from_slice_get, named_at)

pub declared_at : (f : Dqbf) → IsLawful f → (vs : List ℕ) (p : ℕ) → vs ≡ existential_variables f →
    p < length f.existentials → IsSome (existential_of f (get_or vs p 0))
declared_at f lawful vs p are below =
    let none : Existential = record { variable = 0; sees = [] } in
    let known = known_at f lawful vs p (get_or f.existentials p none) are
    (slice_get-get_or f.existentials p none below) in
    subst IsSome (sym known) refl

module _ (f : Dqbf) (lawful : HasLawfulPrefix f) where
  abbrev us : List ℕ
  us = f.universals

  abbrev es : List Existential
  es = f.existentials

  apart : (p q : ℕ) (y z : Existential) → p < q → slice_get es p ≡ Some y → slice_get es q ≡ Some z →
      y.variable ≡ z.variable → ⊥
  apart p q y z before at_p at_q same =
      let vs = map variable es in
      let lt : q < length es = slice_get_within es q z at_q in
      let lp : p < length es = omega arith in
      let many = length-map es variable in
      let far = length-append us vs in
      let left : get_or (us ++ vs) (length us + p) 0 ≡ y.variable =
      get_or-append-add us vs p 0 ∙ get_or-map variable es p y 0 lp ∙ ap variable
      (get_or_from_slice_get es p y y at_p) in
      let right : get_or (us ++ vs) (length us + q) 0 ≡ z.variable =
      get_or-append-add us vs q 0 ∙ get_or-map variable es q z 0 lt ∙ ap variable
      (get_or_from_slice_get es q z z at_q) in
      lawful.declared_once (length us + p) (length us + q) 0 (omega arith) (omega arith) (left ∙ same ∙ sym right)

  pub one_place : (p q : ℕ) (y z : Existential) → slice_get es p ≡ Some y → slice_get es q ≡ Some z →
      y.variable ≡ z.variable → p ≡ q
  one_place p q y z at_p at_q same = elim (cases_lt p q) [
    | inl before ↦ absurd (apart p q y z before at_p at_q same)
    | inr late ↦ (elim (cases_lt q p) [
      | inl after ↦ absurd (apart q p z y after at_q at_p (sym same))
      | inr early ↦ omega arith
    ])
  ]

  pub existential_at : (p : ℕ) (y : Existential) → slice_get es p ≡ Some y →
      position_or_len (λ z. z.variable == y.variable) es ≡ p
  existential_at p y at =
      let lt : p < length es = slice_get_within es p y at in
      let here : get_or es p y ≡ y = get_or_from_slice_get es p y y at in
      position_or_len_is (λ z. z.variable == y.variable) es p y (omega arith)
      (λ k below. ne_eqb (variable (get_or es k y)) y.variable
      (λ same. apart k p (get_or es k y) y below (slice_get-get_or es k y (omega arith)) at same))
      (λ _. eq-eqb (variable (get_or es p y)) y.variable (ap variable here))

pub placed : (ys : List Existential) (w p : ℕ) (d : Existential) → position (λ v. v == w) (map variable ys) ≡ Some p →
    (y : Existential) × (slice_get ys p ≡ Some y) × (y.variable ≡ w)
placed ys w p d found =
    let h = position-Some (λ v. v == w) (map variable ys) p 0 found in
    let within = h.0 in
    let lt : p < length ys = rw (length-map ys variable) at within in
    let is : get_or (map variable ys) p 0 ≡ w = eqb-true (get_or (map variable ys) p 0) w h.1 in
    (get_or ys p d, slice_get-get_or ys p d lt, sym (get_or-map variable ys p d 0 lt) ∙ is)

pub is_variable : (f : Dqbf) (v : ℕ) → IsSome (existential_of f v) → Contains (existential_variables f) v
is_variable f v is = some_existential f v (Contains (existential_variables f) v) is (λ y found.
    let sound = find_sound v f.existentials y found in
    let (k, below, at) = sound.0 in (
      k,
      rw (length-map f.existentials variable) below,
      get_or-map variable f.existentials k y v below ∙ ap variable at
          ∙ sound.1,
    ))

-- the place that is found is the existential's
pub place_is : (f : Dqbf) → IsLawful f → (v p : ℕ) (y : Existential) →
    position (λ w. w == v) (existential_variables f) ≡ Some p → existential_of f v ≡ Some y
    → p ≡ position_or_len (λ z. z.variable == y.variable) f.existentials
place_is f lawful v p y found known =
    let own = (find_sound v f.existentials y known).1 in
    let there = placed f.existentials v p y found in
    let same : there.0.variable ≡ y.variable = there.2 ∙ sym own in
    sym (existential_at f lawful.prefix p there.0 there.1) ∙ ap
    (λ w. position_or_len (λ z. z.variable == w) f.existentials) same
