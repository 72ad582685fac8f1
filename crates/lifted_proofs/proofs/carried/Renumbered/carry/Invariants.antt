use Rattle.std.proofs.Common.{◌≡◌, ◌++◌, map, take}
use Rattle.lifted_proofs.specs.Carried.{lines_of, carried_step}
use Rattle.lifted_proofs.specs.Renumbered.{renumbering}
use Rattle.lifted_proofs.proofs.carried.Renumbered.carry.Given as goal

abbrev pub invariant-loop-k : goal.invariant-loop-k
invariant-loop-k l =
    l.steps ≡ l.initial.steps ++ map (carried_step (renumbering l.self)) (lines_of (take l.k l.items))
