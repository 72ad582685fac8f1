use Rattle.std.proofs.Common.{◌≡◌, length}
use Rattle.repair_loop.proofs.false_rows.find_false_row.Given as goal

abbrev pub invariant-loop-j : goal.invariant-loop-j
invariant-loop-j l = length l.row ≡ length l.f.universals
