use Rattle.std.proofs.Common.{◌-◌, length}
use Rattle.oracle.specs.Fit.{live_in}
use Rattle.cdcl_scan.specs.Scanning.{IsPropagating}
use Rattle.cdcl_scan.proofs.scans.propagate.Given as goal

abbrev pub invariant-passes : goal.invariant-passes
invariant-passes l = IsPropagating (live_in l.clauses.clauses) l.fn.trail l.trail

abbrev pub decreases-passes : goal.decreases-passes
decreases-passes l = l.trail.room - length l.trail.steps
