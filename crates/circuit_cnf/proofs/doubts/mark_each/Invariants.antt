use Rattle.std.proofs.Common.{◌≡◌, length}
use Rattle.circuit_cnf.proofs.doubts.mark_each.Given as goal

abbrev pub invariant-loop-j : goal.invariant-loop-j
invariant-loop-j l = length l.first ≡ length l.fn.first
