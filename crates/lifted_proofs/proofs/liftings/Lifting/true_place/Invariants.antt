use Rattle.std.proofs.Common.{◌≡◌, false, take}
use Rattle.dq_prep.specs.Units.{is_satisfied, taken_literals}
use Rattle.lifted_proofs.specs.Goals.{clause_at}
use Rattle.lifted_proofs.specs.Liftings.{formula_of, units_of}
use Rattle.lifted_proofs.proofs.liftings.Lifting.true_place.Given as goal

abbrev pub invariant-loop-place : goal.invariant-loop-place
invariant-loop-place l =
    is_satisfied (taken_literals (units_of l.self)) (take l.place (clause_at (formula_of l.self) l.clause)) ≡ false
