use Rattle.std.proofs.Common.{sym}
use Rattle.interpolants.proofs.Sets.{set_more}
use Rattle.interpolants.proofs.literal_sets.LiteralSet.fill.Goals as goal

pub loop-l-preserved : goal.loop-l-preserved
loop-l-preserved c =
    set_more c.args.lits.now c.loop-l.l-index c.l-item.result c.loop-l-test.true
    (sym c.l-item.is) c.loop-l.self c.add.new.self c.loop-l.invariant c.in_ok-add.ensures
