use Rattle.std.proofs.Common.{◌≡◌, length}
use Rattle.engine_cases.proofs.rows.row_at.Given as goal

abbrev pub invariant-loop-place : goal.invariant-loop-place
invariant-loop-place l = length l.row ≡ l.count
