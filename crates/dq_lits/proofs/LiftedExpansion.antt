-- An unsatisfiable expansion shows that no choice solves the formula.
use Rattle.std.proofs.Common.{◌≡◌, ◌+◌, ◌-◌, ◌/◌, ◌%◌, ◌<◌, ◌≤◌, ◌==◌, Bool, true, false, not, cond, inl, inr, List, [], ◌∷◌, map, length, get_or, Option, Some, None, refl, sym, ◌∙◌, ap}
use Rattle.std.specs.List.{All, Contains, list_any, filter_map, cons_option, position_or_len}
use Rattle.std.specs.Option.{option_map}
use Rattle.std.proofs.lemmas.Bool.{true≢false, eq-eqb, or_cases, or_parts, or_left, or_right, and_from}
use Rattle.std.proofs.lemmas.List.{get_or-map, length-map}
use Rattle.std.proofs.lemmas.List.Elements.{All-contains, All-head, All-tail, Contains-append_cases, Contains-append_right}
use Rattle.std.proofs.lemmas.List.Folds.{list_any_at}
use Rattle.list_laws.proofs.Numbers.{pair_variable, pair_row}
use Rattle.list_laws.proofs.Folds.{first_holds}
use Rattle.dq_lits.specs.Literal.{Assignment, Literal, positive, negative, variable_of, on_variable, literal_true, clause_true}
use Rattle.dq_lits.specs.Formula.{Existential, Dqbf, declared, is_universal, existential_of, HasLawfulPrefix, IsWellFormed}
use Rattle.dq_lits.specs.Henkin.{restriction, same_bits, HenkinChoice, choice_value, IsFalseFormula}
use Rattle.dq_lits.specs.Expansion.{row_assignment, agree_on, pair_number, pair_literal, universal_literal_true, InstanceHolds, IsExpansionUnsatisfiable}
use Rattle.dq_lits.proofs.Choices.{same_bits-refl, same_bits-sound}
use Rattle.dq_lits.proofs.Followers.{variable, find_own, existentials_once, value_or, follower, follower_keeps_universals, follower_follows}
use Rattle.dq_lits.proofs.Truth.{literal_true-on_variable}

abbrev value_of : HenkinChoice → Assignment → Option Existential → Bool
value_of choice m None = false
value_of choice m (Some y) = choice_value choice y m

-- the bits of the pairs, from a choice
abbrev pair_value : Dqbf → List (List Bool) → HenkinChoice → Assignment
pair_value f rows choice n =
    value_of choice (row_assignment f (get_or rows ((n - 1) / f.variables) []))
    (existential_of f ((n - 1) % f.variables + 1))

-- the bit of a pair is what the choice gives the existential under each of the pair's rows
pair_value-pair_number : (f : Dqbf) (rows : List (List Bool)) (choice : HenkinChoice) (row : List Bool)
    (y : Existential) →
    existential_of f y.variable ≡ Some y → 1 ≤ y.variable → y.variable ≤ f.variables →
    list_any (agree_on f y row) rows ≡ true →
    pair_value f rows choice (pair_number f rows row y) ≡ choice_value choice y (row_assignment f row)
pair_value-pair_number f rows choice row y own low high found =
    let place = position_or_len (agree_on f y row) rows in
    let first = get_or rows place [] in
    let n = pair_number f rows row y in
    let alike = same_bits-sound (restriction y (row_assignment f row)) (restriction y (row_assignment f first))
    (first_holds (agree_on f y row) rows found) in
    ap (λ k. value_of choice (row_assignment f (get_or rows k [])) (existential_of f ((n - 1) % f.variables + 1)))
    (pair_row place f.variables y.variable low high)
    ∙ ap (λ v. value_of choice (row_assignment f first) (existential_of f v))
    (pair_variable place f.variables y.variable low high)
    ∙ ap (value_of choice (row_assignment f first)) own
    ∙ ap (λ bits. list_any (same_bits bits) (choice y)) (sym alike)

pub literal_true-agree : (m n : Assignment) (l : Literal) → m (variable_of l) ≡ n (variable_of l) →
    literal_true m l ≡ literal_true n l
literal_true-agree m n (positive v) h = h
literal_true-agree m n (negative v) h = ap not h

-- what is fixed while one row is lifted
record Lift : Type 0 where
  formula : Dqbf
  rows : List (List Bool)
  choice : HenkinChoice
  row : List Bool
  lawful : HasLawfulPrefix formula
  listed : (y : Existential) → list_any (agree_on formula y row) rows ≡ true

-- the row's assignment that follows the choice
abbrev row_follower : Lift → Assignment
row_follower t = follower t.formula t.choice (row_assignment t.formula t.row)

abbrev lifted : Lift → Assignment
lifted t = pair_value t.formula t.rows t.choice

abbrev on_pair : Lift → Literal → Option Literal
on_pair t l = pair_literal t.formula t.rows t.row l

universal_is_true : (t : Lift) (l : Literal) → Contains t.formula.universals (variable_of l) →
    literal_true (row_follower t) l ≡ true →
    universal_literal_true t.formula t.row l ≡ true
universal_is_true t l (k, below, is) truth =
    let v = variable_of l in
    let m = row_assignment t.formula t.row in
    let kept = All-contains (λ x. row_follower t x ≡ m x) t.formula.universals v
    (follower_keeps_universals t.formula t.lawful t.choice m) (k, below, is) in
    and_from (is_universal t.formula v) (literal_true m l)
    (list_any_at (λ x. x == v) t.formula.universals k v below (eq-eqb (get_or t.formula.universals k v) v is))
    (literal_true-agree m (row_follower t) l (sym kept) ∙ truth)

-- a true existential literal is true on its pair
existential_is_true : (t : Lift) (l : Literal) → Contains (map variable t.formula.existentials) (variable_of l) →
    literal_true (row_follower t) l ≡ true →
    (q : Literal) × (on_pair t l ≡ Some q) × (literal_true (lifted t) q ≡ true)
existential_is_true t l (k, below, is) truth =
    let f = t.formula in
    let ys = f.existentials in
    let v = variable_of l in
    let nobody : Existential = record { variable = 0; sees = [] } in
    let y = get_or ys k nobody in
    let inside : k < length ys = rw (length-map ys variable) at below in
    let names : y.variable ≡ v = sym (get_or-map variable ys k nobody v inside) ∙ is in
    let own : existential_of f y.variable ≡ Some y = find_own ys k nobody inside
    (existentials_once f.universals ys t.lawful.declared_once) in
    let found : existential_of f v ≡ Some y = ap (existential_of f) (sym names) ∙ own in
    let range = All-contains (λ w. (1 ≤ w) × (w ≤ f.variables)) (declared f) v t.lawful.in_range
    (Contains-append_right f.universals (map variable ys) v (k, below, is)) in
    let low : 1 ≤ y.variable = rw names range.0 in
    let high : y.variable ≤ f.variables = rw names range.1 in
    let n = pair_number f t.rows t.row y in
    let bit = pair_value-pair_number f t.rows t.choice t.row y own low high (t.listed y)
    ∙ sym (ap (value_or t.choice (row_assignment f t.row) v) found) in (
      on_variable n l,
      ap (option_map (λ z. on_variable (pair_number f t.rows t.row z) l)) found,
      literal_true-on_variable (lifted t) (row_follower t) n l bit ∙ truth,
    )

still_true : (m : Assignment) (o : Option Literal) (rest : List Literal) → clause_true m rest ≡ true →
    clause_true m (cons_option o rest) ≡ true
still_true m None rest h = h
still_true m (Some q) rest h = or_right (literal_true m q) (clause_true m rest) h

now_true : (m : Assignment) (o : Option Literal) (q : Literal) (rest : List Literal) → o ≡ Some q →
    literal_true m q ≡ true → clause_true m (cons_option o rest) ≡ true
now_true m o q rest is truth = ap (λ p. clause_true m (cons_option p rest)) is ∙ or_left (literal_true m q)
    (clause_true m rest) truth

clause_lifts : (t : Lift) (clause : List Literal) → All (λ l. Contains (declared t.formula) (variable_of l)) clause →
    clause_true (row_follower t) clause ≡ true → list_any (universal_literal_true t.formula t.row) clause ≡ false →
    clause_true (lifted t) (filter_map (on_pair t) clause) ≡ true
clause_lifts t [] bound truth no_universal = truth
clause_lifts t (l ∷ ls) bound truth no_universal =
    let Bound : Literal → Type 0 = λ k. Contains (declared t.formula) (variable_of k) in
    let parts = or_parts (universal_literal_true t.formula t.row l)
    (list_any (universal_literal_true t.formula t.row) ls) no_universal in
    let rest = filter_map (on_pair t) ls in
    elim (or_cases (literal_true (row_follower t) l) (clause_true (row_follower t) ls) truth) [
      | inl here ↦ elim (Contains-append_cases t.formula.universals (map variable t.formula.existentials)
          (variable_of l) (All-head Bound l ls bound)) [
            | inl universal ↦ absurd (true≢false (sym (universal_is_true t l universal here) ∙ parts.0))
            | inr existential ↦
                let q = existential_is_true t l existential here in
                now_true (lifted t) (on_pair t l) q.0 rest q.1 q.2
          ]
      | inr later ↦ still_true (lifted t) (on_pair t l) rest
          (clause_lifts t ls (All-tail Bound l ls bound) later parts.1)
    ]

instance_holds : (m : Assignment) (b : Bool) (clause : List Literal) → (b ≡ false → clause_true m clause ≡ true) →
    InstanceHolds m (cond b None (Some clause))
instance_holds m true clause h = tt
instance_holds m false clause h = h refl

pub expansion_refutes : (f : Dqbf) (rows : List (List Bool)) → IsWellFormed f → IsExpansionUnsatisfiable f rows →
    IsFalseFormula f
expansion_refutes f rows well unsatisfiable choice solves =
    unsatisfiable (pair_value f rows choice) (λ k d below j e inside.
    let row = get_or rows k d in
    let clause = get_or f.matrix j e in
    let t : Lift = record {
      formula = f;
      rows = rows;
      choice = choice;
      row = row;
      lawful = well.prefix;
      listed = λ y. list_any_at (agree_on f y row) rows k d below
          (same_bits-refl (restriction y (row_assignment f row)));
    } in
    instance_holds (lifted t) (list_any (universal_literal_true f row) clause) (filter_map (on_pair t) clause)
    (clause_lifts t clause (well.bound j e inside)
    (solves (row_follower t) (follower_follows f well.prefix choice (row_assignment f row)) j e inside)))
