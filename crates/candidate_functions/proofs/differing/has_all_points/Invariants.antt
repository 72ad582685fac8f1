use Rattle.std.proofs.Common.{ℕ, ◌<◌, ◌+◌}
use Rattle.expansion.specs.Table.{point_bits}
use Rattle.candidate_functions.specs.Differing.{HasKnownPoint}
use Rattle.candidate_functions.proofs.differing.has_all_points.Given as goal

abbrev pub invariant-loop-k : goal.invariant-loop-k
invariant-loop-k l = (k : ℕ) → k < l.k → HasKnownPoint l.own.values.now
    (point_bits l.known.points.now) l.own.y l.own.place (k + 1)
