use Rattle.std.proofs.Common.{[], ◌∷◌, false, true, refl}
use Rattle.dq_lits.specs.Examples.{blind_copy, step, row}
use Rattle.dq_lits.proofs.LiftedExpansion.{expansion_refutes}
use Rattle.dq_lits.proofs.Refutations.{derivation_refutes_expansion}
use Rattle.dq_lits.proofs.WellFormed.{well_formed_by}
use Rattle.dq_lits.proofs.examples.blind_copy_is_false.Goals as goal

pub returns-clause-well_formed : goal.returns-clause-well_formed
returns-clause-well_formed c = well_formed_by blind_copy refl

pub returns-clause-is_false : goal.returns-clause-is_false
returns-clause-is_false c =
    let rows = row false false ∷ row false true ∷ [] in
    expansion_refutes blind_copy rows (well_formed_by blind_copy refl)
    (derivation_refutes_expansion blind_copy rows (step 5 [] (2 ∷ 3 ∷ []) ∷ []) refl)
