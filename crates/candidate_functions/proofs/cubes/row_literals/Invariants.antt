use Rattle.std.proofs.Common.{◌≡◌, map, take}
use Rattle.candidate_functions.specs.Pairs.{row_literal}
use Rattle.candidate_functions.proofs.cubes.row_literals.Given as goal

abbrev pub invariant-loop-p : goal.invariant-loop-p
invariant-loop-p l = l.literals.items ≡ map (row_literal l.row) (take l.p-index l.places)
