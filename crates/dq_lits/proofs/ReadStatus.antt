-- A clause's status, where one literal more is read.
use Rattle.std.proofs.Common.{◌≡◌, Bool, true, false, not, cond, ◌&&◌, inl, inr, List, [], ◌∷◌, ◌++◌, refl, sym, ◌∙◌, ap}
use Rattle.std.specs.List.{list_all}
use Rattle.std.proofs.lemmas.Bool.{cases_Bool}
use Rattle.std.proofs.lemmas.List.{append-nil}
use Rattle.std.proofs.lemmas.List.Elements.{filter-append}
use Rattle.std.proofs.lemmas.List.Folds.{list_all-append}
use Rattle.dq_lits.specs.Literal.{Literal, opposite, same_literal}
use Rattle.dq_lits.specs.Derivation.{unit, stuck, holds, status_by}
use Rattle.dq_lits.proofs.Truth.{same_literal-sound}
use Rattle.dq_lits.specs.Extension.{with_free, with_literal, not_false}
use Rattle.dq_lits.specs.Truth.{literal_value}
use Rattle.dq_lits.specs.declared.truth_values.TruthValue.TheVariants.{True, False, Unassigned}

-- with one more true literal
true_sticks : (a s k : Bool) (l : Literal) → (s ≡ true → k ≡ true) →
    cond ((a && (s && true)) && not k) (unit l) stuck ≡ stuck
true_sticks true true true l h = refl
true_sticks true true false l h = let n = h refl in cc
true_sticks true false k l h = refl
true_sticks false s k l h = refl

true_more : (trues rest : List Literal) (l : Literal) → holds trues l ≡ true → status_by trues (rest ++ l ∷ []) ≡ stuck
true_more trues [] l is_true = ap (λ b. cond (true && not b) (unit l) stuck) is_true
true_more trues (k ∷ rest) l is_true =
    ap (λ b. cond (b && not (holds trues k)) (unit k) stuck) (list_all-append (same_literal k) rest (l ∷ []))
    ∙ true_sticks (list_all (same_literal k) rest) (same_literal k l) (holds trues k) k
    (λ same. ap (holds trues) (same_literal-sound k l same) ∙ is_true)

-- with one more unassigned literal
free_extends : (a s k : Bool) (j l : Literal) → same_literal j l ≡ s →
    with_free (cond (a && not k) (unit j) stuck) l ≡ cond ((a && (s && true)) && not k) (unit j) stuck
free_extends true true true j l h = refl
free_extends true true false j l h = ap (λ b. cond b (unit j) stuck) h
free_extends true false true j l h = refl
free_extends true false false j l h = ap (λ b. cond b (unit j) stuck) h
free_extends false s k j l h = refl

free_literal_more : (trues rest : List Literal) (l : Literal) → holds trues l ≡ false →
    with_free (status_by trues rest) l ≡ status_by trues (rest ++ l ∷ [])
free_literal_more trues [] l free = sym (ap (λ b. cond (true && not b) (unit l) stuck) free)
free_literal_more trues (k ∷ rest) l free =
    free_extends (list_all (same_literal k) rest) (same_literal k l) (holds trues k) k l refl
    ∙ sym (ap (λ b. cond (b && not (holds trues k)) (unit k) stuck) (list_all-append (same_literal k) rest (l ∷ [])))

pub status_more : (trues clause : List Literal) (l : Literal) →
    with_literal (status_by trues (not_false trues clause)) l (literal_value trues l) ≡ status_by trues
    (not_false trues (clause ++ l ∷ []))
status_more trues clause l =
    let rest = not_false trues clause in
    let split = ap (status_by trues) (filter-append (λ k. not (holds trues (opposite k))) clause (l ∷ [])) in
    elim (cases_Bool (holds trues (opposite l))) [
      | inl is_false ↦
          ap (λ b. with_literal (status_by trues rest) l (cond b False (cond (holds trues l) True Unassigned))) is_false
          ∙ ap (status_by trues) (sym (append-nil rest))
          ∙ sym (ap (λ b. status_by trues (rest ++ cond (not b) (l ∷ []) [])) is_false)
          ∙ sym split
      | inr other ↦
          let left = ap (λ b. with_literal (status_by trues rest) l
          (cond b False (cond (holds trues l) True Unassigned))) other in
          let right = sym (ap (λ b. status_by trues (rest ++ cond (not b) (l ∷ []) [])) other) ∙ sym split in
          elim (cases_Bool (holds trues l)) [
            | inl is_true ↦
                left ∙ ap (λ b. with_literal (status_by trues rest) l (cond b True Unassigned)) is_true ∙ sym
                (true_more trues rest l is_true) ∙ right
            | inr free ↦
                left ∙ ap (λ b. with_literal (status_by trues rest) l (cond b True Unassigned)) free
                ∙ free_literal_more trues rest l free ∙ right
          ]
    ]
