-- A table of values, where one literal more is made true.
use Rattle.std.proofs.Common.{◌≡◌, ◌≢◌, ℕ, suc, ◌+◌, ◌<◌, Bool, true, false, not, cond, ◌||◌, inl, inr, List, ◌∷◌, length, set, get_or, count_by, refl, sym, ◌∙◌, ap, subst, arith, get_or-set_other, get_or-set_same}
use Rattle.std.proofs.lemmas.Bool.{cases_eq, eq-eqb, or_left}
use Rattle.std.proofs.lemmas.List.{length-set}
use Rattle.std.proofs.lemmas.List.Sums.{sum_by-set, count_by-le-length}
use Rattle.dq_lits.specs.Literal.{Literal, positive, negative, variable_of, is_negative, opposite, same_literal}
use Rattle.dq_lits.specs.Derivation.{holds}
use Rattle.dq_lits.specs.Table.{IsTold, Tells}
use Rattle.dq_lits.specs.Truth.{is_assigned}
use Rattle.dq_lits.specs.declared.truth_values.TruthValue.{TruthValue}
use Rattle.dq_lits.specs.declared.truth_values.TruthValue.TheVariants.{True, False, Unassigned}
use Rattle.dq_lits.proofs.LiteralValues.{other_positive, other_negative}

pub told_free : (t : TruthValue) (p n : Bool) → IsTold t p n → p ≡ false → n ≡ false → t ≡ Unassigned
told_free True p n h x y = cc
told_free False p n h x y = cc
told_free Unassigned p n h x y = refl

pub told_along : (t : TruthValue) (a b c d : Bool) → a ≡ b → c ≡ d → IsTold t b d → IsTold t a c
told_along True a b c d e f h = (e ∙ h.0, f ∙ h.1)
told_along False a b c d e f h = (e ∙ h.0, f ∙ h.1)
told_along Unassigned a b c d e f h = (e ∙ h.0, f ∙ h.1)

-- an unassigned literal's variable has no value
pub free_at : (values : List TruthValue) (trues : List Literal) (l : Literal) (i : ℕ) → Tells values trues →
    variable_of l ≡ suc i → i < length values →
    holds trues l ≡ false → holds trues (opposite l) ≡ false → get_or values i Unassigned ≡ Unassigned
free_at values trues (positive v) i told e lt h o =
    told_free (get_or values i Unassigned) (holds trues (positive (suc i))) (holds trues (negative (suc i))) (told i lt)
    (ap (λ w. holds trues (positive w)) (sym e) ∙ h) (ap (λ w. holds trues (negative w)) (sym e) ∙ o)
free_at values trues (negative v) i told e lt h o =
    told_free (get_or values i Unassigned) (holds trues (positive (suc i))) (holds trues (negative (suc i))) (told i lt)
    (ap (λ w. holds trues (positive w)) (sym e) ∙ o) (ap (λ w. holds trues (negative w)) (sym e) ∙ h)

-- the value of the variable of a literal that is true
abbrev pub value_where_true : Literal → TruthValue
value_where_true l = cond (not (is_negative l)) True False

told_here : (trues : List Literal) (l : Literal) (i : ℕ) → variable_of l ≡ suc i → holds trues (opposite l) ≡ false →
    IsTold (value_where_true l) (holds (l ∷ trues) (positive (suc i))) (holds (l ∷ trues) (negative (suc i)))
told_here trues (positive v) i e o = (
  or_left (same_literal (positive (suc i)) (positive v)) (holds trues (positive (suc i))) (eq-eqb (suc i) v (sym e)),
  ap (λ w. holds trues (negative w)) (sym e) ∙ o,
)
told_here trues (negative v) i e o = (
  ap (λ w. holds trues (positive w)) (sym e) ∙ o,
  or_left (same_literal (negative (suc i)) (negative v)) (holds trues (negative (suc i))) (eq-eqb (suc i) v (sym e)),
)

pub tells_more : (values : List TruthValue) (trues : List Literal) (l : Literal) (i : ℕ) → Tells values trues →
    variable_of l ≡ suc i → i < length values →
    holds trues (opposite l) ≡ false → Tells (set values i (value_where_true l)) (l ∷ trues)
tells_more values trues l i told e lt o j lt' =
    elim (cases_eq j i) [
      | inl same ↦
          let P : ℕ → Type 0 = λ n. IsTold (get_or (set values i (value_where_true l)) n Unassigned)
          (holds (l ∷ trues) (positive (suc n))) (holds (l ∷ trues) (negative (suc n))) in
          let Q : TruthValue → Type 0 = λ t. IsTold t (holds (l ∷ trues) (positive (suc i)))
          (holds (l ∷ trues) (negative (suc i))) in
          let read : get_or (set values i (value_where_true l)) i Unassigned ≡ value_where_true l =
          get_or-set_same values i (value_where_true l) Unassigned lt in
          subst P (sym same) (subst Q (sym read) (told_here trues l i e o))
      | inr other ↦
          let ne : suc j ≢ variable_of l = λ h. other (omega (arith, h ∙ e)) in
          let Q : TruthValue → Type 0 = λ t. IsTold t (holds (l ∷ trues) (positive (suc j)))
          (holds (l ∷ trues) (negative (suc j))) in
          let read : get_or (set values i (value_where_true l)) j Unassigned ≡ get_or values j Unassigned =
          rw get_or-set_other refl in
          let in_range : j < length values = omega (arith, length-set values i (value_where_true l)) in
          subst Q (sym read)
          (told_along (get_or values j Unassigned) (holds (l ∷ trues) (positive (suc j)))
          (holds trues (positive (suc j)))
          (holds (l ∷ trues) (negative (suc j))) (holds trues (negative (suc j)))
          (ap (λ b. b || holds trues (positive (suc j))) (other_positive (suc j) l ne))
          (ap (λ b. b || holds trues (negative (suc j))) (other_negative (suc j) l ne)) (told j in_range))
    ]

pub one_more_counted : (values : List TruthValue) (i : ℕ) (t : TruthValue) → i < length values →
    get_or values i Unassigned ≡ Unassigned → is_assigned t ≡ true →
    count_by is_assigned (set values i t) ≡ count_by is_assigned values + 1
one_more_counted values i t lt free one =
    let step = sum_by-set (λ x. cond (is_assigned x) 1 0) values i t Unassigned lt in
    let size : Bool → ℕ = λ b. cond b 1 0 in
    let here : size (is_assigned (get_or values i Unassigned)) ≡ size false = ap (λ x. size (is_assigned x)) free in
    let there : size (is_assigned t) ≡ size true = ap size one in
    omega (arith, step, here, there)

-- where a variable has no value, the literals made true are fewer than the variables
pub room_left : (values : List TruthValue) (i : ℕ) → i < length values → get_or values i Unassigned ≡ Unassigned →
    count_by is_assigned values < length values
room_left values i lt free =
    let more = one_more_counted values i True lt free refl in
    let most = count_by-le-length is_assigned (set values i True) in
    omega (arith, more, most, length-set values i True)

pub has_value : (k : Literal) → is_assigned (value_where_true k) ≡ true
has_value (positive v) = refl
has_value (negative v) = refl
