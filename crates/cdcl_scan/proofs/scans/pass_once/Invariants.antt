use Rattle.std.proofs.Common.{length, drop}
use Rattle.oracle.specs.Fit.{live_in}
use Rattle.cdcl_scan.specs.Runs.{AreRuns}
use Rattle.cdcl_scan.specs.Scanning.{IsScanned}
use Rattle.cdcl_scan.proofs.scans.pass_once.Given as goal

abbrev pub invariant-loop-run : goal.invariant-loop-run
invariant-loop-run l = record {
  scanned : IsScanned (live_in l.clauses.clauses) l.fn.trail l.trail l.quiet 0 l.first;
  left : AreRuns l.first (drop l.run-index l.runs) l.clauses.clauses (length l.clauses.clauses);
}
