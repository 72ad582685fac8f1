use Rattle.std.proofs.Common.{arith}
use Rattle.definability.specs.Store.{store_of}
use Rattle.definability.proofs.Activated.{active_all, active_none}
use Rattle.definability.proofs.definability.Definability.active_groups.Goals as goal

pub loop-i-init : goal.loop-i-init
loop-i-init c = search (arith, active_none)

pub loop-i-preserved : goal.loop-i-preserved
loop-i-preserved c = c.in_ok-push_group.ensures c.loop-i.invariant

pub returns : goal.returns
returns c =
    let past = c.loop-i-test.false in
    active_all (store_of c.args.self.now) c.args.side c.args.frames.now c.loop-i.i c.loop-i.groups.items
    (omega (arith, past)) c.loop-i.invariant
