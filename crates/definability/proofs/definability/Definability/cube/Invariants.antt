use Rattle.std.proofs.Common.{◌≡◌, take}
use Rattle.definability.specs.Ruling.{cube_of}
use Rattle.definability.proofs.definability.Definability.cube.Given as goal

abbrev pub invariant-loop-l : goal.invariant-loop-l
invariant-loop-l l = l.lits.items ≡ cube_of l.log.entries l.y (take l.l-index l.l-items)
