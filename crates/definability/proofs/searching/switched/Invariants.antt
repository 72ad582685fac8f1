use Rattle.std.proofs.Common.{◌≡◌, map, take}
use Rattle.oracle.specs.declared.groups.Group.{Group}
use Rattle.definability.proofs.searching.switched.Given as goal

abbrev pub invariant-loop-group : goal.invariant-loop-group
invariant-loop-group l = l.all.items ≡ map (λ (g : Group). g.selector) (take l.group-index l.groups)
