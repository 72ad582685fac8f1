use Rattle.std.proofs.Common.{◌≡◌, ◌++◌, map, take}
use Rattle.lifted_proofs.specs.Carried.{lines_of}
use Rattle.lifted_proofs.specs.CarriedProofs.{carried_line}
use Rattle.lifted_proofs.specs.Carryings.{carrying}
use Rattle.lifted_proofs.proofs.carrying.Carrying.carry.Given as goal

abbrev pub invariant-loop-k : goal.invariant-loop-k
invariant-loop-k l =
    l.steps ≡ l.initial.steps ++ map (carried_line (carrying l.self)) (lines_of (take l.k l.items))
