use Rattle.std.proofs.Common.{arith}
use Rattle.definability.proofs.FollowedClauses.{can_still, copied_from, copied_next, more_none, more_then}
use Rattle.definability.proofs.definability.Definability.copy_places.Goals as goal

pub loop-place-init : goal.loop-place-init
loop-place-init g c = search (arith, more_none)

pub copy_place-requires-clause-standing : goal.copy_place-requires-clause-standing
copy_place-requires-clause-standing g c = search (arith, can_still)

pub returns-in_err-copy_place-clause-more : goal.returns-in_err-copy_place-clause-more
returns-in_err-copy_place-clause-more g c = search (arith, more_then)

pub loop-place-preserved : goal.loop-place-preserved
loop-place-preserved g c = (
  c.copy_place.ensures.fit,
  more_then c.args.f.now c.args.self.now c.loop-place.self c.copy_place.new.self c.args.log.now c.loop-place.log
      c.copy_place.new.log c.loop-place.invariant.1 c.copy_place.ensures.more,
  copied_next c.args.f.now c.args.from c.loop-place.place c.loop-place.self c.copy_place.new.self c.loop-place.log
      c.copy_place.new.log (can_still c.args.f.now c.args.self.now c.loop-place.self c.args.log.now c.loop-place.log
      c.requires.standing c.loop-place.invariant.1) c.copy_place.ensures.more c.loop-place.invariant.2
      c.in_ok-copy_place.ensures.parts c.in_ok-copy_place.ensures.copied,
)

pub returns-clause-copied : goal.returns-clause-copied
returns-clause-copied g c =
    search (
      arith,
      (copied_from c.args.f.now c.args.from c.loop-place.place c.loop-place.self c.loop-place.log.entries (can_still c.args.f.now c.args.self.now c.loop-place.self c.args.log.now c.loop-place.log c.requires.standing c.loop-place.invariant.1)),
      (can_still c.args.f.now c.args.self.now c.loop-place.self c.args.log.now c.loop-place.log c.requires.standing c.loop-place.invariant.1),
    )
