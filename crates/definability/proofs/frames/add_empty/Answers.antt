use Rattle.std.proofs.Common.{None, ◌∷◌, [], length, ap, arith}
use Rattle.std.proofs.lemmas.List.{length-append}
use Rattle.definability.proofs.RoomSteps.{longer_more}
use Rattle.definability.proofs.frames.add_empty.Goals as goal

pub loop-preserved : goal.loop-preserved
loop-preserved c =
    let pushed = c.in_ok-push.ensures.items in
    let long = ap length pushed in
    let parts = length-append c.loop.frames.items (None ∷ []) in
    let so_far = c.loop.invariant.1 in (
      longer_more None c.args.frames.now.items c.loop.frames.items c.push.new.self.items c.loop.invariant.0 pushed,
      omega (arith, long, parts, so_far),
    )

pub returns-in_ok-push-2-clause-more : goal.returns-in_ok-push-2-clause-more
returns-in_ok-push-2-clause-more c =
    longer_more None c.args.frames.now.items c.loop.frames.items c.push-then-len-place.new.self.items
    c.loop.invariant.0 c.in_ok-push-2.ensures.items
