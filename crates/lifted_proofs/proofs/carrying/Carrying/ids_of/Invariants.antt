use Rattle.std.proofs.Common.{◌≡◌, map, take}
use Rattle.lifted_proofs.specs.CarriedProofs.{carried_id}
use Rattle.lifted_proofs.specs.Carryings.{carrying}
use Rattle.lifted_proofs.proofs.carrying.Carrying.ids_of.Given as goal

abbrev pub invariant-loop-h : goal.invariant-loop-h
invariant-loop-h l = l.ids.items ≡ map (carried_id (carrying l.self)) (take l.h-index l.hints)
