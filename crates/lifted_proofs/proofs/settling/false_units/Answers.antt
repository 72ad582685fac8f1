use Rattle.std.proofs.Common.{◌∙◌, arith}
use Rattle.lifted_proofs.proofs.SettledGoals.{step-false, step-open}
use Rattle.lifted_proofs.proofs.settling.false_units.Goals.{in-Some+in_ok-insert, in_default}
use Rattle.lifted_proofs.proofs.settling.false_units.Goals as goal

pub loop-l-preserved : goal.loop-l-preserved
loop-l-preserved c = elim c.match-false_by.branch [
  | in-Some+in_ok-insert w ↦
      step-false c.args.table.now.units.now c.args.goal.source.taken w.in-Some.j c.clause-l-items.result.now
      _ c.loop-l.l-index c.l-item.result c.false_by.result c.loop-l.places c.match-false_by.places
      c.clause-l-items.ensures c.loop-l-test.true c.l-item.is c.false_by.ensures w.in-Some.is c.loop-l.invariant
      (w.places-is ∙ w.in_ok-insert.ensures.numbers)
  | in_default w ↦ search (arith, step-open)
]
