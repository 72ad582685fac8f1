use Rattle.std.proofs.Common.{◌∙◌, ap, arith, ◌+◌}
use Rattle.definability.proofs.FollowedClauses.{can_receive, one_or_two, received_then}
use Rattle.definability.proofs.definability.Definability.give_sides.Goals as goal

pub sides_of-side-requires : goal.sides_of-side-requires
sides_of-side-requires g c = c.requires.standing.2.live.from_one

pub loop-side-init : goal.loop-side-init
loop-side-init g c = search arith

pub give_copy-requires-clause-standing : goal.give_copy-requires-clause-standing
give_copy-requires-clause-standing g c = search (arith, can_receive)

pub give_copy-requires-clause-prepared : goal.give_copy-requires-clause-prepared
give_copy-requires-clause-prepared g c = search arith

pub give_copy-requires-clause-side : goal.give_copy-requires-clause-side
give_copy-requires-clause-side g c = search (arith, one_or_two)

pub give_copy-requires-clause-next : goal.give_copy-requires-clause-next
give_copy-requires-clause-next g c = ap (λ n. n + 1) c.loop-side.invariant.4

pub returns-in_err-give_copy-clause-following : goal.returns-in_err-give_copy-clause-following
returns-in_err-give_copy-clause-following g c = search (arith, received_then)

pub returns-in_err-give_copy-clause-same : goal.returns-in_err-give_copy-clause-same
returns-in_err-give_copy-clause-same g c = search arith

pub returns-in_err-give_copy-clause-long : goal.returns-in_err-give_copy-clause-long
returns-in_err-give_copy-clause-long g c = c.give_copy.ensures.long ∙ c.loop-side.invariant.3

pub loop-side-preserved : goal.loop-side-preserved
loop-side-preserved g c =
    search (
      arith,
      (received_then c.args.f.now c.args.self.now c.loop-side.self c.give_copy.new.self c.args.clause c.args.log.now c.loop-side.log c.give_copy.new.log c.loop-side.invariant.1 c.give_copy.ensures.following),
    )

pub returns-clause-following : goal.returns-clause-following
returns-clause-following g c = c.loop-side.invariant.1

pub returns-clause-given : goal.returns-clause-given
returns-clause-given g c = search arith
