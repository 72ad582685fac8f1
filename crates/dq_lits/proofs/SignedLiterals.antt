-- Lemmas on literals, their variables and their negations.
use Rattle.std.proofs.Common.{◌≡◌, true, refl, ℕ, ◌∙◌, false, inl, inr, sym, subst, ◌⊎◌, ap, not, arith}
use Rattle.std.proofs.lemmas.Bool.{eq-eqb, cases_Bool, true≢false}
use Rattle.dq_lits.specs.Literal.{Literal, positive, negative, same_literal, variable_of, opposite, on_variable, is_negative, literal_code}
use Rattle.dq_lits.proofs.Truth.{same_literal-sound}

pub same_literal-refl : (l : Literal) → same_literal l l ≡ true
same_literal-refl (positive v) = eq-eqb v v refl
same_literal-refl (negative v) = eq-eqb v v refl

pub opposite_variable : (l : Literal) → variable_of (opposite l) ≡ variable_of l
opposite_variable (positive v) = refl
opposite_variable (negative v) = refl

pub opposite-opposite : (l : Literal) → opposite (opposite l) ≡ l
opposite-opposite (positive v) = refl
opposite-opposite (negative v) = refl

pub same_opposite : (k l : Literal) → same_literal (opposite k) (opposite l) ≡ same_literal k l
same_opposite (positive v) (positive w) = refl
same_opposite (positive v) (negative w) = refl
same_opposite (negative v) (positive w) = refl
same_opposite (negative v) (negative w) = refl

pub variable_of-on : (x : ℕ) (l : Literal) → variable_of (on_variable x l) ≡ x
variable_of-on x (positive v) = refl
variable_of-on x (negative v) = refl

pub same_literal-differs : (x y : Literal) → same_literal x y ≡ false → same_literal y x ≡ false
same_literal-differs x y e = elim (cases_Bool (same_literal y x)) [
  | inl same ↦
      let is = same_literal-sound y x same in
      absurd (true≢false (sym (subst (λ z. same_literal z y ≡ true) is
      (subst (λ z. same_literal y z ≡ true) (sym is) same)) ∙ e))
  | inr apart ↦ apart
]

pub negated-positive : (g : Literal) → is_negative g ≡ false → opposite g ≡ negative (variable_of g)
negated-positive (positive v) h = refl
negated-positive (negative v) h = cc

pub as_positive : (l : Literal) → is_negative l ≡ false → l ≡ positive (variable_of l)
as_positive (positive v) h = refl
as_positive (negative v) h = cc

pub opposite-other : (l : Literal) → l ≡ opposite l → ⊥
opposite-other (positive v) same = cc
opposite-other (negative v) same = cc

pub one_variable : (k l : Literal) → variable_of k ≡ variable_of l → (k ≡ l) ⊎ (k ≡ opposite l)
one_variable (positive v) (positive w) same = inl (ap positive same)
one_variable (positive v) (negative w) same = inr (ap positive same)
one_variable (negative v) (positive w) same = inr (ap negative same)
one_variable (negative v) (negative w) same = inl (ap negative same)

pub on-on : (x y : ℕ) (l : Literal) → on_variable x (on_variable y l) ≡ on_variable x l
on-on x y (positive v) = refl
on-on x y (negative v) = refl

pub opposite-negative : (l : Literal) → is_negative (opposite l) ≡ not (is_negative l)
opposite-negative (positive v) = refl
opposite-negative (negative v) = refl

-- literals have codes of their own
pub same_code : (a b : Literal) → literal_code a ≡ literal_code b → a ≡ b
same_code (positive v) (positive w) h = let e : v ≡ w = omega (arith, h) in ap positive e
same_code (positive v) (negative w) h = absurd (omega (arith, h))
same_code (negative v) (positive w) h = absurd (omega (arith, h))
same_code (negative v) (negative w) h = let e : v ≡ w = omega (arith, h) in ap negative e
