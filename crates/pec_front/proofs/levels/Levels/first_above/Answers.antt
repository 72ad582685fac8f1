use Rattle.std.proofs.Common.{sym, ◌∙◌}
use Rattle.pec_front.specs.Steps.{level_in}
use Rattle.pec_front.proofs.RaisedLevels.{below-more, found-above}
use Rattle.pec_front.proofs.levels.Levels.first_above.Goals as goal

pub returns-then-is_above : goal.returns-then-is_above
returns-then-is_above c = (
  found-above (level_in c.args.self.now) c.args.boxes.now c.loop-i.i c.index-boxes-i.result c.ins.result.now
      c.loop-i-test.true c.index-boxes-i.is c.ins.ensures (sym c.is_above.ensures ∙ c.if-is_above.true),
  λ i low. c.loop-i.invariant i low,
)

pub loop-i-preserved : goal.loop-i-preserved
loop-i-preserved c =
    below-more (level_in c.args.self.now) c.args.boxes.now c.loop-i.i c.index-boxes-i.result c.ins.result.now
    c.loop-i-test.true c.index-boxes-i.is c.ins.ensures c.loop-i.invariant
    (sym c.is_above.ensures ∙ c.if-is_above.false)
