use Rattle.std.proofs.Common.{◌≡◌, ◌+◌, sym, ◌∙◌, ap, arith, Some}
use Rattle.dq_lits.specs.Derivation.{unit, status_of}
use Rattle.oracle.specs.Fit.{live_in}
use Rattle.learning_trail.specs.Steps.{literals_of}
use Rattle.learning_trail.specs.Extension.{seen}
use Rattle.learning_trail.proofs.StatusLaws.{implied_from}
use Rattle.learning_trail.proofs.LargerTrails.{literal_within, live_within}
use Rattle.cdcl_scan.proofs.ClausePasses.{live_read, scanned_unit, scanned_stuck}
use Rattle.cdcl_scan.proofs.scans.pass_clauses.Goals as goal
use Rattle.cdcl_scan.proofs.scans.pass_clauses.Goals.{in-Unit, in-Stuck}

pub push-requires-clause-in_range : goal.push-requires-clause-in_range
push-requires-clause-in_range c =
    let clause = c.lits.result.now in
    let status : status_of (literals_of c.loop-at.trail.steps) (Some clause) ≡ unit c.in-Unit.l =
    sym c.status_of.ensures ∙ ap seen c.in-Unit.is in
    let among = (implied_from (literals_of c.loop-at.trail.steps) clause c.in-Unit.l status).among in
    let within = live_within c.args.clauses.now.clauses c.args.trail.now.room
    (c.loop-at.at + 1) clause c.lits.ensures c.requires.in_range in
    let room = c.loop-at.invariant.room in
    let low = literal_within c.args.trail.now.room clause c.in-Unit.l within among in
    omega (arith, low, room)

pub push-requires-clause-free : goal.push-requires-clause-free
push-requires-clause-free c =
    let status : status_of (literals_of c.loop-at.trail.steps) (Some c.lits.result.now) ≡ unit c.in-Unit.l =
    sym c.status_of.ensures ∙ ap seen c.in-Unit.is in
    (implied_from (literals_of c.loop-at.trail.steps) c.lits.result.now c.in-Unit.l status).free

pub loop-at-preserved : goal.loop-at-preserved
loop-at-preserved c =
    let clauses = c.args.clauses.now.clauses in
    let clause = c.lits.result.now in
    let at = c.loop-at.at in
    let status = c.status_of.ensures in
    elim c.match-status_of.branch [
      | in-Unit w ↦
          rw (w.trail-is, w.quiet-is)
          (scanned_unit (live_in clauses) c.args.trail.now c.loop-at.trail w.push.new.self c.loop-at.quiet c.args.first
          at (at + 1) clause w.in-Unit.l c.lits.ensures
          c.loop-at.invariant (sym status ∙ ap seen w.in-Unit.is) w.push.ensures.is w.push.ensures.few)
      | in-Stuck w ↦
          rw (w.trail-is, w.quiet-is)
          (scanned_stuck (live_in clauses) c.args.trail.now c.loop-at.trail c.loop-at.quiet c.args.first at clause
          (live_read clauses at clause c.lits.ensures) c.loop-at.invariant (sym status ∙ ap seen w.in-Stuck.is))
    ]
