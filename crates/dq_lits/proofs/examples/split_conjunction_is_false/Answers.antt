use Rattle.std.proofs.Common.{[], ◌∷◌, refl}
use Rattle.dq_lits.specs.Literal.{negative}
use Rattle.dq_lits.specs.Examples.{split_conjunction, step, four_rows}
use Rattle.dq_lits.proofs.LiftedExpansion.{expansion_refutes}
use Rattle.dq_lits.proofs.Refutations.{derivation_refutes_expansion}
use Rattle.dq_lits.proofs.WellFormed.{well_formed_by}
use Rattle.dq_lits.proofs.examples.split_conjunction_is_false.Goals as goal

pub returns-clause-well_formed : goal.returns-clause-well_formed
returns-clause-well_formed c = well_formed_by split_conjunction refl

pub returns-clause-is_false : goal.returns-clause-is_false
returns-clause-is_false c =
    expansion_refutes split_conjunction four_rows (well_formed_by split_conjunction refl)
    (derivation_refutes_expansion split_conjunction four_rows
    (step 25 (negative 3 ∷ []) (15 ∷ 3 ∷ 12 ∷ 20 ∷ []) ∷ step 26 [] (25 ∷ 16 ∷ 4 ∷ 11 ∷ 19 ∷ []) ∷ []) refl)
