use Rattle.oracle.specs.Fit.{live_in}
use Rattle.learning_trail.proofs.LargerTrails.{grown_both}
use Rattle.cdcl_scan.proofs.ClausePasses.{propagating_more}
use Rattle.cdcl_scan.proofs.scans.propagate.Goals as goal

pub returns-in-Conflict-clause-grown : goal.returns-in-Conflict-clause-grown
returns-in-Conflict-clause-grown c = grown_both c.args.trail.now.steps c.passes.trail.steps c.pass_once.new.trail.steps
    c.passes.invariant.grown c.pass_once.ensures.grown

pub passes-preserved : goal.passes-preserved
passes-preserved c =
    propagating_more (live_in c.args.clauses.now.clauses) c.args.trail.now c.passes.trail c.pass_once.new.trail
    c.passes.invariant c.pass_once.ensures.room c.pass_once.ensures.sound
    c.pass_once.ensures.grown c.pass_once.ensures.few

pub returns-in-Quiet-clause-grown : goal.returns-in-Quiet-clause-grown
returns-in-Quiet-clause-grown c = grown_both c.args.trail.now.steps c.passes.trail.steps c.pass_once.new.trail.steps
    c.passes.invariant.grown c.pass_once.ensures.grown
