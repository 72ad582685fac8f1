use Rattle.std.proofs.Common.{arith}
use Rattle.definition_order.proofs.SizePlaces.{sizes_more}
use Rattle.definition_order.proofs.sizes.sized_places.Goals as goal

pub loop-place-preserved : goal.loop-place-preserved
loop-place-preserved c =
    search (
      arith,
      (sizes_more c.args.f.now c.args.ranks.now c.loop-place.sized.items c.push.new.self.items c.loop-place.place c.size_at.result c.rank_at.result c.loop-place.invariant c.in_ok-push.ensures.items c.size_at.ensures c.rank_at.ensures),
    )
