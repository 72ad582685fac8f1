use Rattle.cdcl_scan.specs.Searching.{IsRunning, left_of}
use Rattle.cdcl_scan.proofs.search.search.Given as goal

abbrev pub invariant-turns : goal.invariant-turns
invariant-turns l = IsRunning l.assumptions l.fn.s l.s l.fn.log l.log

abbrev pub decreases-turns : goal.decreases-turns
decreases-turns l = left_of l.s l.log
