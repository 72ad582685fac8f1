use Rattle.std.proofs.Common.{◌≤◌, length, take}
use Rattle.std.specs.List.{All, Contains}
use Rattle.copied_prefixes.proofs.end_of_list.Given as goal

abbrev pub invariant-loop-x : goal.invariant-loop-x
invariant-loop-x l =
    (l.end ≤ length l.f.universals) × All (Contains (take l.end l.f.universals)) (take l.x-index l.vars)
