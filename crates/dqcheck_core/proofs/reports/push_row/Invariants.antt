use Rattle.std.proofs.Common.{◌≡◌, ◌++◌, length}
use Rattle.dqcheck_core.specs.Report.{row_text}
use Rattle.dqcheck_core.proofs.reports.push_row.Given as goal

abbrev pub invariant-loop-x : goal.invariant-loop-x
invariant-loop-x l = l.text.items ++ row_text l.bits l.rest ≡ l.fn.text.items ++ row_text l.number l.universals

abbrev pub decreases-loop-x : goal.decreases-loop-x
decreases-loop-x l = length l.rest
