use Rattle.std.proofs.Common.{◌≡◌, length}
use Rattle.repair_loop.proofs.signs.Signs.row.Given as goal

abbrev pub invariant-loop-place : goal.invariant-loop-place
invariant-loop-place l = length l.row ≡ length l.self.universals.items
