use Rattle.std.proofs.Common.{◌≡◌, sym, ◌∙◌, ap, arith, Some, get_or}
use Rattle.std.proofs.lemmas.List.{get_or_default}
use Rattle.std.proofs.lemmas.List.Elements.{Contains-get_or}
use Rattle.dq_lits.specs.Derivation.{unit, status_of}
use Rattle.learning_trail.specs.Steps.{literals_of}
use Rattle.learning_trail.specs.Extension.{seen}
use Rattle.learning_trail.proofs.LargerTrails.{live_within, literal_within}
use Rattle.learning_trail.proofs.StatusLaws.{implied_from}
use Rattle.cdcl_core.proofs.VisitedClauses.{passing_unit, passing_stuck}
use Rattle.cdcl_core.proofs.propagation.pass_short.Goals as goal
use Rattle.cdcl_core.proofs.propagation.pass_short.Goals.{in-Unit, in-Stuck}

pub lits-requires-clause-from_one : goal.lits-requires-clause-from_one
lits-requires-clause-from_one c = (c.requires.ids (get_or c.args.short.now c.loop-id.id-index 0)
    (Contains-get_or c.args.short.now c.loop-id.id-index 0 c.loop-id-test.true)).0

pub lits-requires-clause-is_id : goal.lits-requires-clause-is_id
lits-requires-clause-is_id c = (c.requires.ids (get_or c.args.short.now c.loop-id.id-index 0)
    (Contains-get_or c.args.short.now c.loop-id.id-index 0 c.loop-id-test.true)).1

pub status_of-requires : goal.status_of-requires
status_of-requires c = λ k d lt.
    let within = live_within c.args.arena.now.clauses c.args.trail.now.room
    (get_or c.args.short.now c.loop-id.id-index 0) c.lits.result.now c.lits.ensures c.requires.in_range in
    let room = c.loop-id.invariant.room in
    let low = within k d lt in
    omega (arith, low, room)

pub push-requires-clause-in_range : goal.push-requires-clause-in_range
push-requires-clause-in_range c =
    let clause = c.lits.result.now in
    let status : status_of (literals_of c.loop-id.trail.steps) (Some clause) ≡ unit c.in-Unit.l =
    sym c.status_of.ensures ∙ ap seen c.in-Unit.is in
    let among = (implied_from (literals_of c.loop-id.trail.steps) clause c.in-Unit.l status).among in
    let within = live_within c.args.arena.now.clauses c.args.trail.now.room
    (get_or c.args.short.now c.loop-id.id-index 0) clause c.lits.ensures c.requires.in_range in
    let room = c.loop-id.invariant.room in
    let low = literal_within c.args.trail.now.room clause c.in-Unit.l within among in
    omega (arith, low, room)

pub push-requires-clause-free : goal.push-requires-clause-free
push-requires-clause-free c =
    let status : status_of (literals_of c.loop-id.trail.steps) (Some c.lits.result.now) ≡ unit c.in-Unit.l =
    sym c.status_of.ensures ∙ ap seen c.in-Unit.is in
    (implied_from (literals_of c.loop-id.trail.steps) c.lits.result.now c.in-Unit.l status).free

pub loop-id-preserved : goal.loop-id-preserved
loop-id-preserved c =
    let short = c.args.short.now in
    let i = c.loop-id.id-index in
    let id = get_or short i 0 in
    let lt = c.loop-id-test.true in
    let at : id ≡ get_or short i id = get_or_default short i 0 id lt in
    let clause = c.lits.result.now in
    let status = c.status_of.ensures in
    elim c.match-status_of.branch [
      | in-Unit w ↦
          rw w.trail-is
          (passing_unit c.args.arena.now.clauses c.args.trail.now c.loop-id.trail w.push.new.self short i id clause
          w.in-Unit.l lt at c.lits.ensures c.loop-id.invariant
          (sym status ∙ ap seen w.in-Unit.is) w.push.ensures.is w.push.ensures.few)
      | in-Stuck w ↦
          rw w.trail-is
          (passing_stuck c.args.arena.now.clauses c.args.trail.now c.loop-id.trail short i id clause lt at
          c.lits.ensures c.loop-id.invariant (sym status ∙ ap seen w.in-Stuck.is))
    ]
