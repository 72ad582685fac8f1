use Rattle.std.proofs.Common.{◌≡◌, map, take}
use Rattle.lifted_proofs.specs.Carried.{carried_id}
use Rattle.lifted_proofs.specs.Renumbered.{renumbering}
use Rattle.lifted_proofs.proofs.carried.Renumbered.ids_of.Given as goal

abbrev pub invariant-loop-h : goal.invariant-loop-h
invariant-loop-h l = l.ids.items ≡ map (carried_id (renumbering l.self)) (take l.h-index l.hints)
