-- A table of values, where a literal is made true and where it is taken back.
use Rattle.std.proofs.Common.{◌≡◌, ℕ, suc, ◌+◌, ◌<◌, Bool, true, cond, ◌||◌, List, [], ◌∷◌, ◌++◌, length, take, drop, drop-cons, reverse, set, get_or, count_by, refl, sym, ◌∙◌, ap, arith, get_or-set_other, get_or-set_same}
use Rattle.std.proofs.lemmas.Bool.{cases_eq, eq-eqb, or_left, or_right, false≢true}
use Rattle.std.proofs.lemmas.List.{length-set, length-reverse, length-take-le, reverse-append, take-append-drop, append_assoc}
use Rattle.std.proofs.lemmas.List.Sums.{sum_by-set}
use Rattle.dq_lits.specs.Literal.{Literal, positive, negative, variable_of}
use Rattle.dq_lits.specs.Derivation.{holds}
use Rattle.learning_trail.specs.declared.trails.Step.{Step}
use Rattle.learning_trail.specs.Steps.{IsAt}
use Rattle.dq_lits.specs.Table.{IsTold, Tells}
use Rattle.dq_lits.specs.Truth.{is_assigned, IsFree}
use Rattle.dq_lits.specs.declared.truth_values.TruthValue.{TruthValue}
use Rattle.dq_lits.specs.declared.truth_values.TruthValue.TheVariants.{True, False, Unassigned}
use Rattle.dq_lits.proofs.AssignedLiterals.{value_where_true, free_at, has_value, one_more_counted, room_left, told_along}
use Rattle.dq_lits.proofs.LiteralValues.{other_positive, other_negative}

pub one_more : (values : List TruthValue) (trues : List Literal) (l : Literal) (i : ℕ) → Tells values trues →
    variable_of l ≡ suc i → i < length values → IsFree trues l →
    (count_by is_assigned (set values i (value_where_true l)) ≡ count_by is_assigned values + 1) ×
    (count_by is_assigned values < length values)
one_more values trues l i told e lt free =
    search (arith, free_at, one_more_counted, value_where_true, has_value, room_left)

told_assigned : (t : TruthValue) (p n : Bool) → IsTold t p n → (p || n) ≡ true → is_assigned t ≡ true
told_assigned True p n h x = refl
told_assigned False p n h x = refl
told_assigned Unassigned p n h x = let a = h.0 in let b = h.1 in absurd (false≢true (sym (ap (λ k. k || n) a ∙ b) ∙ x))

first_told : (trues : List Literal) (l : Literal) (i : ℕ) → variable_of l ≡ suc i →
    (holds (l ∷ trues) (positive (suc i)) || holds (l ∷ trues) (negative (suc i))) ≡ true
first_told trues (positive v) i e = search (arith, or_left, eq-eqb)
first_told trues (negative v) i e = search (arith, or_right, or_left, eq-eqb)

pub one_less : (values : List TruthValue) (trues : List Literal) (l : Literal) (i : ℕ) → Tells values (l ∷ trues) →
    variable_of l ≡ suc i → i < length values →
    count_by is_assigned (set values i Unassigned) + 1 ≡ count_by is_assigned values
one_less values trues l i told e lt =
    let one : is_assigned (get_or values i Unassigned) ≡ true =
    told_assigned (get_or values i Unassigned) (holds (l ∷ trues) (positive (suc i)))
    (holds (l ∷ trues) (negative (suc i))) (told i lt) (first_told trues l i e) in
    let step = sum_by-set (λ x. cond (is_assigned x) 1 0) values i Unassigned Unassigned lt in
    let size : Bool → ℕ = λ b. cond b 1 0 in
    let here : size (is_assigned (get_or values i Unassigned)) ≡ size true = ap size one in
    omega (arith, step, here)

freed_here : (trues : List Literal) (l : Literal) (i : ℕ) → variable_of l ≡ suc i → IsFree trues l →
    IsTold Unassigned (holds trues (positive (suc i))) (holds trues (negative (suc i)))
freed_here trues (positive v) i e free = search arith
freed_here trues (negative v) i e free = search arith

pub tells_less : (values : List TruthValue) (trues : List Literal) (l : Literal) (i : ℕ) → Tells values (l ∷ trues) →
    variable_of l ≡ suc i → i < length values →
    IsFree trues l → Tells (set values i Unassigned) trues
tells_less values trues l i told e lt free j lt' =
    search (
      arith,
      cases_eq,
      get_or-set_same,
      freed_here,
      get_or-set_other,
      length-set,
      told_along,
      other_positive,
      other_negative,
    )

pub at_place : (xs steps : List Step) (i : ℕ) (s : Step) → reverse xs ≡ steps → i < length xs → s ≡ get_or xs i s →
    IsAt steps i s.literal
at_place xs steps i s turned lt at =
    let rest = drop (suc i) xs in
    let split : take i xs ++ s ∷ rest ≡ xs = ap (λ ys. take i xs ++ ys)
    (ap (λ y. y ∷ rest) at ∙ sym (drop-cons xs i s lt)) ∙ take-append-drop i xs in
    record {
      newer = reverse rest;
      step = s;
      older = reverse (take i xs);
      is = sym turned ∙ ap reverse (sym split) ∙ reverse-append (take i xs) (s ∷ rest) ∙ ap
          (λ ys. ys ++ reverse (take i xs)) (reverse-append (s ∷ []) rest) ∙ append_assoc (reverse rest) (s ∷ [])
          (reverse (take i xs));
      count = length-reverse (take i xs) ∙ length-take-le i xs (omega (arith, lt));
      literal = refl;
    }
