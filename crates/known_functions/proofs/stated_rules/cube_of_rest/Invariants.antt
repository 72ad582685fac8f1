use Rattle.std.proofs.Common.{◌≡◌, take}
use Rattle.known_functions.specs.Stating.{rest_cube}
use Rattle.known_functions.proofs.stated_rules.cube_of_rest.Given as goal

abbrev pub invariant-loop-l : goal.invariant-loop-l
invariant-loop-l l = l.lits.items ≡ rest_cube l.y (take l.l-index l.clause)
