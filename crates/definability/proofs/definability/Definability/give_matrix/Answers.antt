use Rattle.std.proofs.Common.{arith}
use Rattle.definability.proofs.FirstStores.{before_more, can_give_still, given_none, given_then}
use Rattle.definability.proofs.definability.Definability.give_matrix.Goals as goal

pub loop-place-init : goal.loop-place-init
loop-place-init g c = search (arith, given_none)

pub give_clause-requires-clause-open_file : goal.give_clause-requires-clause-open_file
give_clause-requires-clause-open_file g c = search (arith, can_give_still)

pub returns-in_err-give_clause-clause-more : goal.returns-in_err-give_clause-clause-more
returns-in_err-give_clause-clause-more g c = search (arith, given_then)

pub loop-place-preserved : goal.loop-place-preserved
loop-place-preserved g c =
    search (
      arith,
      (given_then c.args.f.now c.args.self.now c.loop-place.self c.give_clause.new.self c.args.log.now c.loop-place.log c.give_clause.new.log c.loop-place.invariant.1 c.give_clause.ensures.more),
      (before_more c.args.f.now c.loop-place.self c.give_clause.new.self c.loop-place.log c.give_clause.new.log c.loop-place.place c.give_clause.ensures.more c.loop-place.invariant.2 c.in_ok-give_clause.ensures.given),
    )

pub returns-clause-given : goal.returns-clause-given
returns-clause-given g c = search arith
