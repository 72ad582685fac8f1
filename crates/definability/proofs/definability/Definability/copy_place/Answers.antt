use Rattle.std.proofs.Common.{arith}
use Rattle.std.proofs.lemmas.List.{get_or_default}
use Rattle.definability.proofs.FlagSteps.{flag_set, flagged_more, parts_stay}
use Rattle.definability.proofs.FollowedClauses.{can_still, more_none, more_then}
use Rattle.definability.proofs.definability.Definability.copy_place.Goals as goal

pub index-part-requires : goal.index-part-requires
index-part-requires g c = search arith

pub loop-part-init : goal.loop-part-init
loop-part-init g c = search (arith, more_none, get_or_default)

pub add_part-requires-clause-standing : goal.add_part-requires-clause-standing
add_part-requires-clause-standing g c = search (arith, can_still)

pub returns-in_err-add_part-clause-more : goal.returns-in_err-add_part-clause-more
returns-in_err-add_part-clause-more g c = search (arith, more_then)

pub loop-part-preserved : goal.loop-part-preserved
loop-part-preserved g c =
    search (
      arith,
      (more_then c.args.f.now c.args.self.now c.loop-part.self c.add_part.new.self c.args.log.now c.loop-part.log c.add_part.new.log c.loop-part.invariant.1 c.add_part.ensures.more),
    )

pub returns-clause-more : goal.returns-clause-more
returns-clause-more g c =
    search (
      arith,
      (more_then c.args.f.now c.args.self.now c.loop-part.self c.flag.new.self c.args.log.now c.loop-part.log c.loop-part.log c.loop-part.invariant.1),
      (flagged_more c.args.f.now c.loop-part.self c.flag.new.self c.loop-part.log c.args.place (g.met.O.Oracle.searched c.loop-part.oracle c.loop-part.log c.loop-part.invariant.0).logged),
      c.loop-part.invariant.2,
      c.loop-part-test.false,
      g.met.O.Oracle.searched,
    )

pub returns-clause-parts : goal.returns-clause-parts
returns-clause-parts g c = search (arith, parts_stay)

pub returns-clause-copied : goal.returns-clause-copied
returns-clause-copied g c =
    search (
      arith,
      (flag_set c.args.f.now c.loop-part.self c.flag.new.self c.loop-part.log c.args.place (g.met.O.Oracle.searched c.loop-part.oracle c.loop-part.log c.loop-part.invariant.0).logged),
    )
