use Rattle.std.proofs.Common.{◌<◌, sym, subst, length}
use Rattle.oracle.specs.Fit.{live_in}
use Rattle.cdcl_scan.specs.Passes.{IsRunPassed}
use Rattle.cdcl_scan.specs.Scanning.{IsScanned}
use Rattle.cdcl_scan.specs.declared.passes.Pass.TheVariants.{Quiet}
use Rattle.learning_trail.proofs.LargerTrails.{grown_both}
use Rattle.cdcl_scan.proofs.ClausePasses.{next_run, no_run_left, scanned_more, scanned_quiet, scanned_closed}
use Rattle.cdcl_scan.proofs.scans.pass_once.Goals as goal
use Rattle.cdcl_scan.proofs.scans.pass_once.Goals.{in-More, in-Quiet}

pub pass_run-requires-clause-last : goal.pass_run-requires-clause-last
pass_run-requires-clause-last c =
    (next_run c.runs-runs.result.now c.args.clauses.now.clauses c.loop-run.first c.loop-run.run-index c.run-item.result
    c.loop-run-test.true (sym c.run-item.is) c.loop-run.invariant.left).last

pub returns-in-Conflict-clause-grown : goal.returns-in-Conflict-clause-grown
returns-in-Conflict-clause-grown c =
    grown_both c.args.trail.now.steps c.loop-run.trail.steps c.pass_run.new.trail.steps
    c.loop-run.invariant.scanned.grown c.pass_run.ensures.grown

pub loop-run-preserved : goal.loop-run-preserved
loop-run-preserved c =
    let clauses = c.args.clauses.now.clauses in
    let live = live_in clauses in
    let old = c.args.trail.now in
    let now = c.loop-run.trail in
    let new = c.pass_run.new.trail in
    let run = c.run-item.result in
    let inv = c.loop-run.invariant.scanned in
    let next = next_run c.runs-runs.result.now clauses c.loop-run.first c.loop-run.run-index run c.loop-run-test.true
    (sym c.run-item.is) c.loop-run.invariant.left in
    let e = c.pass_run.ensures in
    record {
      scanned = elim c.match-pass_run.branch [
        | in-More w ↦
            let more : length now.steps < length new.steps =
            subst (IsRunPassed live now new c.loop-run.first run.last) w.in-More.is e.passed in
            rw w.quiet-is (scanned_more live old now new c.loop-run.quiet c.loop-run.first run.last inv e.room e.sound
            e.grown e.few more)
        | in-Quiet w ↦
            let quiet : IsRunPassed live now new c.loop-run.first run.last Quiet =
            subst (IsRunPassed live now new c.loop-run.first run.last) w.in-Quiet.is e.passed in
            rw w.quiet-is (scanned_quiet live old now new c.loop-run.quiet c.loop-run.first run.last inv quiet.0
            quiet.1)
      ];
      left = next.left;
    }

pub returns-then-quiet-clause-passed : goal.returns-then-quiet-clause-passed
returns-then-quiet-clause-passed c =
    let clauses = c.args.clauses.now.clauses in
    scanned_closed clauses c.args.trail.now c.loop-run.trail c.loop-run.first
    (no_run_left c.runs-runs.result.now clauses c.loop-run.first c.loop-run.run-index c.loop-run-test.false
    c.loop-run.invariant.left)
    (subst (λ q. IsScanned (live_in clauses) c.args.trail.now c.loop-run.trail q 0 c.loop-run.first) c.if-quiet.true
    c.loop-run.invariant.scanned)
