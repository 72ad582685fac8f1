use Rattle.std.proofs.Common.{◌∷◌, [], arith}
use Rattle.std.proofs.lemmas.List.{length-append}
use Rattle.definability.proofs.RoomSteps.{longer_more}
use Rattle.definability.proofs.frames.add_zeros.Goals as goal

pub loop-preserved : goal.loop-preserved
loop-preserved c =
    search (
      arith,
      (length-append c.loop.given.items (0 ∷ [])),
      (longer_more 0 c.args.given.now.items c.loop.given.items c.push.new.self.items c.loop.invariant.0),
    )
