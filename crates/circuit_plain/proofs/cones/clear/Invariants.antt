use Rattle.std.proofs.Common.{◌≡◌, false, length, take, replicate}
use Rattle.circuit_plain.proofs.cones.clear.Given as goal

abbrev pub invariant-loop-i : goal.invariant-loop-i
invariant-loop-i l = (length l.row ≡ length l.initial.row) × (take l.i l.row ≡ replicate l.i false)
