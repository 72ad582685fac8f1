use Rattle.std.proofs.Common.{◌≡◌, map, take}
use Rattle.std.specs.List.{slice_index}
use Rattle.dq_formula.proofs.formula.picked.Given as goal

abbrev pub invariant-loop-place : goal.invariant-loop-place
invariant-loop-place l = l.vars.items ≡ map (slice_index l.xs) (take l.place-index l.places)
