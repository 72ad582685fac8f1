-- Lemmas on which literals a list holds.
use Rattle.std.proofs.Common.{◌≡◌, ◌≢◌, ℕ, Bool, true, false, cond, inl, inr, List, [], ◌∷◌, refl, sym, ◌∙◌, ap}
use Rattle.std.specs.List.{list_all}
use Rattle.std.proofs.lemmas.Bool.{cases_Bool, and_parts, ne_eqb, false≢true, false_from_ne_true}
use Rattle.dq_lits.specs.Literal.{Literal, positive, negative, variable_of, opposite, same_literal}
use Rattle.dq_lits.specs.Derivation.{holds, is_tautology}
use Rattle.dq_lits.proofs.Truth.{same_literal-sound}
use Rattle.dq_lits.proofs.HeldLiterals.{any_gives, holds_cases}
use Rattle.dq_lits.proofs.SignedLiterals.{same_literal-refl, one_variable}
use Rattle.dq_lits.specs.Truth.{literal_value, IsFree}
use Rattle.dq_lits.specs.declared.truth_values.TruthValue.TheVariants.{True, False, Unassigned}

pub same_literal-sym : (k l : Literal) → same_literal k l ≡ true → same_literal l k ≡ true
same_literal-sym k l h = ap (λ x. same_literal l x) (same_literal-sound k l h) ∙ same_literal-refl l

pub other_positive : (v : ℕ) (l : Literal) → v ≢ variable_of l → same_literal (positive v) l ≡ false
other_positive v (positive w) h = ne_eqb v w h
other_positive v (negative w) h = refl

pub other_negative : (v : ℕ) (l : Literal) → v ≢ variable_of l → same_literal (negative v) l ≡ false
other_negative v (positive w) h = refl
other_negative v (negative w) h = ne_eqb v w h

-- a free literal's variable stands on no literal of the list
pub free_variable : (trues : List Literal) (l t : Literal) → IsFree trues l → holds trues t ≡ true →
    variable_of t ≡ variable_of l → ⊥
free_variable trues l t free h same =
    elim (one_variable t l same) [
      | inl e ↦ false≢true (sym free.0 ∙ ap (holds trues) (sym e) ∙ h)
      | inr e ↦ false≢true (sym free.1 ∙ ap (holds trues) (sym e) ∙ h)
    ]

-- no literal beside its negation
pub no_tautology : (line : List Literal) → ((l : Literal) → holds line l ≡ true → holds line (opposite l) ≡ true → ⊥) →
    is_tautology line ≡ false
no_tautology line apart = false_from_ne_true (is_tautology line)
    (λ h. let r = any_gives (λ l. holds line (opposite l)) line h in apart r.0 r.1 r.2)

-- what a value says
pub value_free : (trues : List Literal) (l : Literal) → literal_value trues l ≡ Unassigned → IsFree trues l
value_free trues l h =
    elim (cases_Bool (holds trues (opposite l))) [
      | inl is_false ↦ let e = ap (λ b. cond b False (cond (holds trues l) True Unassigned)) is_false in
          let n : False ≡ Unassigned = sym e ∙ h in cc
      | inr other ↦ elim (cases_Bool (holds trues l)) [
        | inl is_true ↦
            let e = ap (λ b. cond b False (cond (holds trues l) True Unassigned)) other in
            let f = ap (λ b. cond b True Unassigned) is_true in
            let n : True ≡ Unassigned = sym f ∙ sym e ∙ h in
            cc
        | inr free ↦ (free, other)
      ]
    ]

pub value_true : (trues : List Literal) (l : Literal) → literal_value trues l ≡ True → holds trues l ≡ true
value_true trues l h =
    elim (cases_Bool (holds trues l)) [
      | inl is_true ↦ is_true
      | inr other ↦ elim (cases_Bool (holds trues (opposite l))) [
        | inl is_false ↦ let e = ap (λ b. cond b False (cond (holds trues l) True Unassigned)) is_false in
            let n : False ≡ True = sym e ∙ h in cc
        | inr free ↦
            let e = ap (λ b. cond b False (cond (holds trues l) True Unassigned)) free in
            let f = ap (λ b. cond b True Unassigned) other in
            let n : Unassigned ≡ True = sym f ∙ sym e ∙ h in
            cc
      ]
    ]

pub value_false : (trues : List Literal) (l : Literal) → literal_value trues l ≡ False → holds trues (opposite l) ≡ true
value_false trues l h =
    elim (cases_Bool (holds trues (opposite l))) [
      | inl is_false ↦ is_false
      | inr other ↦
          let e = ap (λ b. cond b False (cond (holds trues l) True Unassigned)) other in
          let n : cond (holds trues l) True Unassigned ≡ False = sym e ∙ h in
          elim (cases_Bool (holds trues l)) [
            | inl is_true ↦ let m : True ≡ False = sym (ap (λ b. cond b True Unassigned) is_true) ∙ n in cc
            | inr free ↦ let m : Unassigned ≡ False = sym (ap (λ b. cond b True Unassigned) free) ∙ n in cc
          ]
    ]

pub all_give : (p : Literal → Bool) (line : List Literal) (l : Literal) → list_all p line ≡ true → holds line l ≡ true →
    p l ≡ true
all_give p [] l all h = absurd (false≢true h)
all_give p (k ∷ line) l all h =
    let both = and_parts (p k) (list_all p line) all in
    elim (holds_cases k line l h) [
      | inl e ↦ ap p e ∙ both.0
      | inr later ↦ all_give p line l both.1 later
    ]
