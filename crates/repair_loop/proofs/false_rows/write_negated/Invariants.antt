use Rattle.std.proofs.Common.{◌≡◌, length}
use Rattle.repair_loop.proofs.false_rows.write_negated.Given as goal

abbrev pub invariant-loop-l : goal.invariant-loop-l
invariant-loop-l l = length l.row ≡ length l.fn.row
