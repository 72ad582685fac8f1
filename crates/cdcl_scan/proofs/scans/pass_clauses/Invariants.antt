use Rattle.oracle.specs.Fit.{live_in}
use Rattle.cdcl_scan.specs.Scanning.{IsScanned}
use Rattle.cdcl_scan.proofs.scans.pass_clauses.Given as goal

abbrev pub invariant-loop-at : goal.invariant-loop-at
invariant-loop-at l = IsScanned (live_in l.clauses.clauses) l.fn.trail l.trail l.quiet l.first l.at
