use Rattle.std.proofs.Common.{◌≡◌, ◌-◌, ◌++◌, false, take, replicate, length}
use Rattle.definability.specs.Dividing.{values_at}
use Rattle.definability.proofs.reading.row_of_values.Given as goal

abbrev pub invariant-loop-place : goal.invariant-loop-place
invariant-loop-place g l = l.row ≡ values_at (g.O.Oracle.values l.oracle) (take l.place l.lits) ++ replicate
    (length l.lits - l.place) false
