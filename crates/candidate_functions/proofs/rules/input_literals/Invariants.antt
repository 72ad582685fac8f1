use Rattle.std.proofs.Common.{◌≡◌, map, take}
use Rattle.candidate_functions.specs.Pairs.{input_literal}
use Rattle.candidate_functions.proofs.rules.input_literals.Given as goal

abbrev pub invariant-loop-l : goal.invariant-loop-l
invariant-loop-l l = l.literals.items ≡ map (input_literal l.f) (take l.l-index l.cube)
