use Rattle.std.proofs.Common.{◌≡◌, drop}
use Rattle.dq_lits.specs.Row.{assignment_of}
use Rattle.expansion.proofs.points.bit_of_variable.Given as goal

abbrev pub invariant-loop-place : goal.invariant-loop-place
invariant-loop-place l = assignment_of l.variables l.row l.y ≡ assignment_of (drop l.place l.variables)
    (drop l.place l.row) l.y
