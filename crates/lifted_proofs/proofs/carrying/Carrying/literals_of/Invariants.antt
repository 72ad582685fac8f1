use Rattle.std.proofs.Common.{◌≡◌, map, take}
use Rattle.lifted_proofs.specs.CarriedProofs.{carried_literal}
use Rattle.lifted_proofs.specs.Carryings.{carrying}
use Rattle.lifted_proofs.proofs.carrying.Carrying.literals_of.Given as goal

abbrev pub invariant-loop-l : goal.invariant-loop-l
invariant-loop-l l = l.carried.items ≡ map (carried_literal (carrying l.self)) (take l.l-index l.lits)
