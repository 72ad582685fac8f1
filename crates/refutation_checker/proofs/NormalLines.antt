-- Lines on the numbers of their pairs.
use Rattle.std.proofs.Common.{◌≡◌, Bool, List, [], ◌∷◌, map, refl, ap}
use Rattle.dq_lits.specs.Formula.{Dqbf}
use Rattle.dq_lits.specs.Derivation.{ProofStep}
use Rattle.refutation_checker.specs.Refutation.{normal_step, normal_item}
use Rattle.rup_core.specs.Items.{derived}

-- lines are put on their pairs one by one
pub normal_lines : (f : Dqbf) (all : List (List Bool)) (steps : List ProofStep) →
    map (normal_item f all) (map derived steps) ≡ map derived (map (normal_step f all) steps)
normal_lines f all [] = refl
normal_lines f all (s ∷ ss) = ap (λ items. derived (normal_step f all s) ∷ items) (normal_lines f all ss)
