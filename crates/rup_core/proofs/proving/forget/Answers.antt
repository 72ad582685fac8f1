use Rattle.rup_core.proofs.JudgedLines.{none_forgotten, one_forgotten}
use Rattle.rup_core.proofs.proving.forget.Goals as goal

pub loop-id-init : goal.loop-id-init
loop-id-init c = none_forgotten c.args.store.now

pub loop-id-preserved : goal.loop-id-preserved
loop-id-preserved c =
    one_forgotten c.args.ids.now c.loop-id.id-index c.args.store.now c.loop-id.store c.gone.new.self c.loop-id-test.true
    c.loop-id.invariant c.gone.ensures
