-- Units by their places.
use Rattle.std.proofs.Common.{◌≡◌, ◌≢◌, ℕ, suc, ◌+◌, ◌<◌, ◌==◌, Bool, true, false, inl, inr, List, [], ◌∷◌, ◌++◌, take, drop, reverse, length, get_or, slice_get, Option, Some, None, is_some, refl, sym, ◌∙◌, ap, subst, arith}
use Rattle.std.specs.Prelude.{slice_set, slice_index_or}
use Rattle.std.specs.List.{Contains, position}
use Rattle.std.proofs.lemmas.Bool.{true≢false, or_cases, or_left, cases_lt, cases_eq, cases_Bool, eqb-true}
use Rattle.std.proofs.lemmas.Option.{slice_get_within, get_or_from_slice_get, slice_get-get_or, same_Some}
use Rattle.std.proofs.lemmas.List.{take-append-drop, reverse-append, take_more, get_or-take, length-take, length-map, length-set, get_or_default, get_or-set_same, get_or-set_other}
use Rattle.std.proofs.lemmas.List.Quantifiers.{position-Some}
use Rattle.std.proofs.lemmas.List.Sorted.{Contains-permutation, IsPermutation-reverse, IsPermutation-sym}
use Rattle.list_laws.proofs.Members.{tested_inside}
use Rattle.dq_lits.specs.Literal.{Literal, variable_of, opposite, same_literal}
use Rattle.dq_lits.specs.Formula.{Dqbf, existential_of, IsWellFormed}
use Rattle.dq_lits.specs.Derivation.{holds}
use Rattle.dq_lits.proofs.Truth.{same_literal-sound}
use Rattle.dq_lits.proofs.SignedLiterals.{same_literal-refl, opposite_variable, one_variable}
use Rattle.dq_formula.specs.Prefix.{existential_variables}
use Rattle.dq_formula.proofs.Entries.{is_some-find, list_any-map}
use Rattle.dq_formula.proofs.Subsets.{none_contained}
use Rattle.dq_prep.specs.declared.traces.Taken.{Taken}
use Rattle.dq_prep.specs.Units.{AreUnits, IsUnit, taken_literals}
use Rattle.dq_prep.proofs.Units.{taken-holds, left-holds, satisfied-by}
use Rattle.dq_prep.proofs.ToldValues.{unit-fresh, unit-existential}
use Rattle.lifted_proofs.specs.UnitTables.{first_units, first_literals, TellsUnit, TellUnits, IsFalseBy, IsFalseAt}

later-units : (f : Dqbf) (xs ys : List Taken) → AreUnits f (xs ++ ys) → AreUnits f ys
later-units f [] ys are = are
later-units f (x ∷ xs) ys are = later-units f xs ys are.1

-- the first units were taken one after another
pub first-are-units : (f : Dqbf) (units : List Taken) (count : ℕ) → AreUnits f (reverse units)
    → AreUnits f (first_units units count)
first-are-units f units count are =
    search (
      arith,
      (later-units f (reverse (drop count units)) (reverse (take count units))),
      (take-append-drop count units),
      (reverse-append (take count units) (drop count units)),
    )

pub first-more : (units : List Taken) (j : ℕ) (u : Taken) → slice_get units j ≡ Some u
    → first_units units (j + 1) ≡ u ∷ first_units units j
first-more units j u at =
    search (
      arith,
      (take_more units j u (slice_get_within units j u at)),
      (slice_get_within units j u at),
      (reverse-append (take j units) (get_or units j u ∷ [])),
      (get_or_from_slice_get units j u u at),
    )

-- a unit, by the units before it
pub unit-at : (f : Dqbf) (units : List Taken) (j : ℕ) (u : Taken) → AreUnits f (reverse units)
    → slice_get units j ≡ Some u → IsUnit f (first_units units j) u
unit-at f units j u are at = search (arith, (first-are-units f units (j + 1) are), (first-more units j u at))

-- the literal of a unit is among those of the first ones
pub first-holds : (units : List Taken) (count j : ℕ) (u : Taken) → j < count → slice_get units j ≡ Some u
    → holds (first_literals units count) u.literal ≡ true
first-holds units count j u before at =
    search (
      arith,
      (slice_get_within units j u at),
      (length-take count units),
      (get_or-take count units j u before),
      (get_or_from_slice_get units j u u at),
      (Contains-permutation (take count units) (reverse (take count units)) u (IsPermutation-reverse (take count units))),
      (IsPermutation-reverse (take count units)),
      (taken-holds (reverse (take count units))),
    )

holds-unit : (units : List Taken) (l : Literal) → holds (taken_literals units) l ≡ true
    → (u : Taken) × Contains units u × (u.literal ≡ l)
holds-unit [] l h = absurd (true≢false (sym h))
holds-unit (u ∷ us) l h = elim (or_cases (same_literal l u.literal) (holds (taken_literals us) l) h) [
  | inl same ↦ (u, (0, omega arith, refl), sym (same_literal-sound l u.literal same))
  | inr later ↦
      let r = holds-unit us l later in
      let i = r.1.0 in
      (r.0, (suc i, omega (arith, r.1.1), r.1.2), r.2)
]

-- one of the first units has a literal that they hold
pub record IsFirst (units : List Taken) (count : ℕ) (l : Literal) : Type 0 where
  pub place : ℕ
  pub unit : Taken
  pub before : place < count
  pub at : slice_get units place ≡ Some unit
  pub is : unit.literal ≡ l

pub held-first : (units : List Taken) (count : ℕ) (l : Literal)
    → holds (first_literals units count) l ≡ true → IsFirst units count l
held-first units count l h =
    let r = holds-unit (first_units units count) l h in
    let u = r.0 in
    let c = Contains-permutation (reverse (take count units)) (take count units) u
    (IsPermutation-sym (take count units) (reverse (take count units))
    (IsPermutation-reverse (take count units))) r.1 in
    let before : c.0 < count = omega (arith, c.1, length-take count units) in
    let within : c.0 < length units = omega (arith, c.1, length-take count units) in
    let at : get_or units c.0 u ≡ u = sym (get_or-take count units c.0 u before) ∙ c.2 in
    record {
      place = c.0;
      unit = u;
      before = before;
      at = slice_get-get_or units c.0 u within ∙ ap Some at;
      is = r.2;
    }

-- no two units are on one variable
units-apart : (f : Dqbf) (units : List Taken) (i j : ℕ) (u w : Taken) → AreUnits f (reverse units)
    → i < j → slice_get units i ≡ Some u → slice_get units j ≡ Some w
    → variable_of u.literal ≢ variable_of w.literal
units-apart f units i j u w are before at-i at-j same =
    search (
      arith,
      (unit-at f units j w are at-j),
      (first-holds units j i u before at-i),
      (one_variable u.literal w.literal same),
      (left-holds f w.literal),
      or_left,
      (same_literal-refl w.literal),
      true≢false,
      satisfied-by,
      (unit-fresh f),
    )

pub one-unit : (f : Dqbf) (units : List Taken) (i j : ℕ) (u w : Taken) → AreUnits f (reverse units)
    → slice_get units i ≡ Some u → slice_get units j ≡ Some w
    → variable_of u.literal ≡ variable_of w.literal → i ≡ j
one-unit f units i j u w are at-i at-j same =
    search (
      arith,
      (cases_eq i j),
      (cases_lt i j),
      (units-apart f units i j u w are),
      (units-apart f units j i w u are),
    )

-- where no unit is on the variable, none makes the literal false
pub none-false : (f : Dqbf) (units : List Taken) (count : ℕ) (l : Literal) → IsWellFormed f
    → AreUnits f (reverse units) → position (λ y. y == variable_of l) (existential_variables f) ≡ None
    → IsFalseBy units count l None
none-false f units count l well are none =
    elim (cases_Bool (holds (first_literals units count) (opposite l))) [
      | inr other ↦ other
      | inl held ↦
          let first = held-first units count (opposite l) held in
          let it = unit-at f units first.place first.unit are first.at in
          let there = unit-existential f (first_units units first.place) first.unit well it in
          let same : variable_of first.unit.literal ≡ variable_of l = ap variable_of first.is ∙ opposite_variable l in
          absurd (none_contained (existential_variables f) (variable_of l) none
          (subst (Contains (existential_variables f)) same there))
    ]

pub untold-false : (units : List Taken) (count : ℕ) (l : Literal)
    → TellsUnit units (length units) (variable_of l) None → IsFalseBy units count l None
untold-false units count l none =
    search (arith, cases_Bool, (held-first units count), (slice_get_within units), (opposite_variable l))

pub other-false : (units : List Taken) (count : ℕ) (l : Literal) (j : ℕ)
    → TellsUnit units (length units) (variable_of l) (Some j)
    → ((u : Taken) → slice_get units j ≡ Some u → j < count → u.literal ≡ opposite l → ⊥)
    → IsFalseBy units count l None
other-false units count l j told none =
    search (arith, cases_Bool, (held-first units count), (slice_get_within units), (opposite_variable l))

one-at : (units : List Taken) (i j : ℕ) (w u : Taken) → i ≡ j → slice_get units i ≡ Some w
    → slice_get units j ≡ Some u → u ≡ w
one-at units i j w u same there at = same_Some u w (sym at ∙ ap (slice_get units) (sym same) ∙ there)

-- one more unit, on another variable
pub tells-more : (units : List Taken) (j v : ℕ) (u : Taken) (o : Option ℕ) → slice_get units j ≡ Some u
    → variable_of u.literal ≢ v → TellsUnit units j v o → TellsUnit units (j + 1) v o
tells-more units j v u None at other told = search (arith, cases_lt, one-at)
tells-more units j v u (Some place) at other told = search (arith, cases_lt, one-at)

-- the existential at a place has the newest unit
pub tells-here : (f : Dqbf) (units : List Taken) (j : ℕ) (u : Taken) (v : ℕ) → AreUnits f (reverse units)
    → slice_get units j ≡ Some u → variable_of u.literal ≡ v → TellsUnit units (j + 1) v (Some j)
tells-here f units j u v are at is =
    (omega arith, λ i w below there same. one-unit f units i j w u are there at (same ∙ sym is))

same-place : (f : Dqbf) (v w p : ℕ) → position (λ y. y == v) (existential_variables f) ≡ Some p
    → position (λ y. y == w) (existential_variables f) ≡ Some p → v ≡ w
same-place f v w p at-v at-w =
    let a = position-Some (λ y. y == v) (existential_variables f) p 0 at-v in
    let b = position-Some (λ y. y == w) (existential_variables f) p 0 at-w in
    sym (eqb-true (get_or (existential_variables f) p 0) v a.1)
    ∙ eqb-true (get_or (existential_variables f) p 0) w b.1

-- the table with one more unit
pub table-more : (f : Dqbf) (units : List Taken) (j place : ℕ) (u : Taken) (on : List (Option ℕ))
    → AreUnits f (reverse units) → slice_get units j ≡ Some u
    → position (λ y. y == variable_of u.literal) (existential_variables f) ≡ Some place
    → place < length on → TellUnits f units j on → TellUnits f units (j + 1) (slice_set on place (Some j))
table-more f units j place u on are at found within told v p at-v = elim (cases_eq p place) [
  | inl same ↦
      let here : position (λ y. y == v) (existential_variables f) ≡ Some place = at-v ∙ ap Some same in
      subst (TellsUnit units (j + 1) v)
      (sym (ap (λ k. get_or (slice_set on place (Some j)) k None) same
      ∙ get_or-set_same on place (Some j) None within))
      (tells-here f units j u v are at (same-place f (variable_of u.literal) v place found here))
  | inr other ↦ search (arith, get_or-set_other, tells-more)
]

-- a unit on no existential changes nothing
pub table-stays : (f : Dqbf) (units : List Taken) (j : ℕ) (u : Taken) (on : List (Option ℕ))
    → slice_get units j ≡ Some u
    → position (λ y. y == variable_of u.literal) (existential_variables f) ≡ None
    → TellUnits f units j on → TellUnits f units (j + 1) on
table-stays f units j u on at none told v p at-v = search (arith, tells-more)

pub unit-some : (f : Dqbf) (units : List Taken) (j : ℕ) (u : Taken) (v : ℕ) → IsWellFormed f
    → AreUnits f (reverse units) → slice_get units j ≡ Some u → v ≡ variable_of u.literal
    → is_some (existential_of f v) ≡ true
unit-some f units j u v well are at is =
    let there = unit-existential f (first_units units j) u well (unit-at f units j u are at) in
    ap (λ w. is_some (existential_of f w)) is
    ∙ is_some-find (λ y. y.variable == variable_of u.literal) f.existentials
    ∙ sym (list_any-map (λ x. x == variable_of u.literal) (λ y. y.variable) f.existentials)
    ∙ tested_inside (existential_variables f) (variable_of u.literal) there

-- the table's answers
pub place-none : (f : Dqbf) (units : List Taken) (count : ℕ) (l : Literal) (v : ℕ) (o : Option ℕ) → IsWellFormed f
    → AreUnits f (reverse units) → v ≡ variable_of l → o ≡ position (λ y. y == v) (existential_variables f) → o ≡ None
    → IsFalseBy units count l None
place-none f units count l v o well are is at none =
    none-false f units count l well are
    (subst (λ w. position (λ y. y == w) (existential_variables f) ≡ None) is (sym at ∙ none))

pub told-at : (f : Dqbf) (units : List Taken) (on : List (Option ℕ)) (l : Literal) (v place : ℕ) (o x : Option ℕ)
    → TellUnits f units (length units) on → length on ≡ length f.existentials → v ≡ variable_of l
    → o ≡ position (λ y. y == v) (existential_variables f) → o ≡ Some place → x ≡ slice_index_or on place x
    → TellsUnit units (length units) (variable_of l) x
told-at f units on l v place o x tell many is at found read =
    search (arith, position-Some, length-map, get_or_default)

pub told-none : (units : List Taken) (count : ℕ) (l : Literal) (x : Option ℕ)
    → TellsUnit units (length units) (variable_of l) x → x ≡ None → IsFalseBy units count l None
told-none units count l x told none = search (arith, untold-false)

pub told-within : (units : List Taken) (l : Literal) (x : Option ℕ) (j : ℕ)
    → TellsUnit units (length units) (variable_of l) x → x ≡ Some j → j < length units
told-within units l x j told some = (subst (TellsUnit units (length units) (variable_of l)) some told).0

pub told-other : (units : List Taken) (count : ℕ) (l : Literal) (x : Option ℕ) (j : ℕ)
    → TellsUnit units (length units) (variable_of l) x → x ≡ Some j
    → ((u : Taken) → slice_get units j ≡ Some u → j < count → u.literal ≡ opposite l → ⊥)
    → IsFalseBy units count l None
told-other units count l x j told some none = search (arith, (other-false units count l j))

pub here-false : (units : List Taken) (j : ℕ) (l k : Literal) (u : Taken) (b : Bool) → slice_get units j ≡ Some u
    → k ≡ opposite l → b ≡ same_literal u.literal k → IsFalseAt units j l b
here-false units j l k u true at is same = search (arith, same_literal-sound)
here-false units j l k u false at is other = search (arith, true≢false, same_literal-refl)

pub not-false-here : (units : List Taken) (j : ℕ) (l : Literal) (b : Bool) → IsFalseAt units j l b → b ≡ false
    → (u : Taken) → slice_get units j ≡ Some u → u.literal ≡ opposite l → ⊥
not-false-here units j l false it is = it
not-false-here units j l true it is = absurd (true≢false is)

pub step-on : (f : Dqbf) (units : List Taken) (j place v : ℕ) (u : Taken) (o : Option ℕ) (on new : List (Option ℕ))
    → AreUnits f (reverse units) → slice_get units j ≡ Some u → v ≡ variable_of u.literal
    → o ≡ position (λ y. y == v) (existential_variables f) → o ≡ Some place
    → (length on ≡ length f.existentials) × TellUnits f units j on → new ≡ slice_set on place (Some j)
    → (length new ≡ length f.existentials) × TellUnits f units (j + 1) new
step-on f units j place v u o on new are at is found some was more =
    let here : position (λ y. y == variable_of u.literal) (existential_variables f) ≡ Some place =
    subst (λ w. position (λ y. y == w) (existential_variables f) ≡ Some place) is (sym found ∙ some) in
    let within = position-Some (λ y. y == variable_of u.literal) (existential_variables f) place 0 here in
    let below : place < length on = omega (arith, within.0, was.0, length-map f.existentials (λ y. y.variable)) in (
      ap (λ (xs : List (Option ℕ)). length xs) more ∙ length-set on place (Some j) ∙ was.0,
      subst (TellUnits f units (j + 1)) (sym more) (table-more f units j place u on are at here below was.1),
    )

pub step-off : (f : Dqbf) (units : List Taken) (j v : ℕ) (u : Taken) (o : Option ℕ) (on new : List (Option ℕ))
    → slice_get units j ≡ Some u → v ≡ variable_of u.literal
    → o ≡ position (λ y. y == v) (existential_variables f) → o ≡ None
    → (length on ≡ length f.existentials) × TellUnits f units j on → new ≡ on
    → (length new ≡ length f.existentials) × TellUnits f units (j + 1) new
step-off f units j v u o on new at is found none was same = search (arith, table-stays)
