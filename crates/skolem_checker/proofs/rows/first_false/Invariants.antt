use Rattle.std.proofs.Common.{◌≡◌, ◌<◌, ℕ, true}
use Rattle.skolem_checker.specs.Tables.{row_bit}
use Rattle.skolem_checker.proofs.rows.first_false.Given as goal

abbrev pub invariant-loop-r : goal.invariant-loop-r
invariant-loop-r l = (q : ℕ) → q < l.r → row_bit l.lanes q ≡ true
