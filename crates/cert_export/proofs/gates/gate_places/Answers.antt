use Rattle.std.proofs.Common.{arith}
use Rattle.cert_export.proofs.GatePlaces.{one_more_looked_at, fewer_left}
use Rattle.cert_export.proofs.gates.gate_places.Goals as goal

pub loop-place-smaller : goal.loop-place-smaller
loop-place-smaller c = search (arith, fewer_left)

pub loop-place-preserved : goal.loop-place-preserved
loop-place-preserved c =
    search (
      arith,
      (one_more_looked_at c.args.log.now.entries c.args.roots c.loop-place.pending c.pop.new.self c.want_sides.new.pending c.in-Some.place c.loop-place.places.items c.loop-place.invariant c.in-Some.ensures.some c.in_ok-want_sides.ensures),
    )
