use Rattle.std.proofs.Common.{◌≡◌, ℕ, zero, suc, ◌==◌, Bool, true, false, not, ◌||◌, [], ◌∷◌, refl, arith, lit<}
use Rattle.std.specs.List.{All, Contains}
use Rattle.std.proofs.lemmas.List.Elements.{All-from_recursion}
use Rattle.dq_lits.specs.Literal.{Assignment, positive, negative, clause_true}
use Rattle.dq_lits.specs.Formula.{Existential}
use Rattle.dq_lits.specs.Skolem.{OutputFunction, IsSupported, AreSkolemFunctions}
use Rattle.dq_lits.specs.Examples.{two_copies, existential, literal_output, outputs_with}
use Rattle.dq_lits.proofs.Skolem.{skolem_functions_solve}
use Rattle.dq_lits.proofs.WellFormed.{well_formed_by}
use Rattle.dq_lits.proofs.examples.copies_have_skolem_functions.Goals as goal

nobody : Existential
nobody = existential 0 []

implied : (a b : Bool) → a ≡ b → (a || (not b || false)) ≡ true
implied true b h = refl
implied false false h = refl
implied false true h = cc

implies : (a b : Bool) → a ≡ b → (not a || (b || false)) ≡ true
implies false b h = refl
implies true true h = refl
implies true false h = cc

abbrev inputs : Existential → OutputFunction
inputs = outputs_with (literal_output (positive 1) 1)

inputs_are_skolem : AreSkolemFunctions two_copies inputs
inputs_are_skolem = record {
  supported = All-from_recursion (λ y. IsSupported (inputs y)) two_copies.existentials
      (λ m n agree. agree 0 0 (lit< tt), (λ m n agree. agree 0 0 (lit< tt), tt));
  reads_declared = All-from_recursion (λ y. All (Contains y.sees) (inputs y).support) two_copies.existentials (
    All-from_recursion (Contains (1 ∷ [])) (1 ∷ []) ((0, lit< tt, refl), tt),
    (All-from_recursion (Contains (2 ∷ [])) (2 ∷ []) ((0, lit< tt, refl), tt), tt),
  );
  holds = λ m values.
      let third : m 3 ≡ m 1 = values 0 nobody (lit< tt) in
      let fourth : m 4 ≡ m 2 = values 1 nobody (lit< tt) in
      All-from_recursion (λ clause. clause_true m clause ≡ true) two_copies.matrix (
        implied (m 3) (m 1) third,
        (
          implies (m 3) (m 1) third,
          (implied (m 4) (m 2) fourth, (implies (m 4) (m 2) fourth, tt)),
        ),
      );
}

-- 3 doesn't see 2
unseen : Contains {X = ℕ} (1 ∷ []) 2 → ⊥
unseen (zero, below, is) = cc
unseen (suc k, below, is) = omega arith

pub returns-clause-well_formed : goal.returns-clause-well_formed
returns-clause-well_formed c = well_formed_by two_copies refl

pub returns-clause-inputs : goal.returns-clause-inputs
returns-clause-inputs c = inputs_are_skolem

pub returns-clause-is_true : goal.returns-clause-is_true
returns-clause-is_true c = skolem_functions_solve two_copies inputs inputs_are_skolem

pub returns-clause-foreign_value : goal.returns-clause-foreign_value
returns-clause-foreign_value c h = unseen (h.reads_declared 0 nobody (lit< tt) 0 0 (lit< tt))

pub returns-clause-foreign_read : goal.returns-clause-foreign_read
returns-clause-foreign_read c h = unseen (h.reads_declared 0 nobody (lit< tt) 1 0 (lit< tt))

pub returns-clause-wrong_value : goal.returns-clause-wrong_value
returns-clause-wrong_value c h =
    let m : Assignment = λ v. v == 3 in
    let values = All-from_recursion (λ y. m y.variable ≡ (outputs_with (literal_output (negative 1) 1) y).value m)
    two_copies.existentials (refl, (refl, tt)) in
    let clause : false ≡ true = h.holds m values 1 [] (lit< tt) in
    cc
