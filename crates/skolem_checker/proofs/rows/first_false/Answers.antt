use Rattle.std.proofs.Common.{arith}
use Rattle.skolem_checker.proofs.RowsLaws.{full_lanes}
use Rattle.skolem_checker.proofs.rows.first_false.Goals as goal

pub returns-then-are_full-clause-none : goal.returns-then-are_full-clause-none
returns-then-are_full-clause-none c none r below = search (arith, full_lanes)
