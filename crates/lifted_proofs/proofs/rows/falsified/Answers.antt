use Rattle.std.proofs.Common.{◌∙◌}
use Rattle.lifted_proofs.proofs.LowRows.{step-universal, step-existential}
use Rattle.lifted_proofs.proofs.rows.falsified.Goals.{in-Some, in_default}
use Rattle.lifted_proofs.proofs.rows.falsified.Goals as goal

pub loop-l-preserved : goal.loop-l-preserved
loop-l-preserved c = elim c.match-universal_place.branch [
  | in-Some w ↦
      step-universal c.args.f.now c.args.row.now c.loop-l.low c.match-universal_place.low c.args.clause.now
      c.loop-l.l-index w.in-Some.place c.var.result c.l-item.result c.universal_place.result w.is_neg.result
      c.requires.plain c.loop-l-test.true c.l-item.is c.loop-l.invariant c.var.ensures.value c.universal_place.ensures
      w.in-Some.is w.is_neg.ensures (w.low-is ∙ w.set.ensures)
  | in_default w ↦
      step-existential c.args.f.now c.args.row.now c.loop-l.low c.match-universal_place.low c.args.clause.now
      c.loop-l.l-index c.var.result c.l-item.result c.universal_place.result c.loop-l-test.true c.l-item.is
      c.loop-l.invariant c.var.ensures.value c.universal_place.ensures w.in_default.is w.low-is
]
