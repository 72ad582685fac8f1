use Rattle.std.proofs.Common.{◌≡◌, ◌-◌, ◌++◌, false, map, take, replicate, length}
use Rattle.expansion.proofs.tables.row_of_values.Given as goal

abbrev pub invariant-loop-place : goal.invariant-loop-place
invariant-loop-place g l = l.row ≡ map (g.O.Oracle.values l.oracle) (take l.place l.variables) ++ replicate
    (length l.variables - l.place) false
