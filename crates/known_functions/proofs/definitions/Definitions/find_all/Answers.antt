use Rattle.std.proofs.Common.{arith}
use Rattle.known_functions.proofs.Asked.{nothing_asked, asked_then}
use Rattle.known_functions.proofs.definitions.Definitions.find_all.Goals as goal

pub find-requires-clause-may : goal.find-requires-clause-may
find-requires-clause-may g c = c.loop-place.invariant.asked.may

pub loop-place-init : goal.loop-place-init
loop-place-init g c = search (arith, nothing_asked)

pub loop-place-preserved : goal.loop-place-preserved
loop-place-preserved g c = record {
  fit = c.find.ensures.fit;
  asked = asked_then c.args.order.now.f.now c.args.graph.now c.loop-place.graph c.find.new.graph c.args.order.now.definability.now
      c.args.log.now c.loop-place.log c.find.new.log c.loop-place.invariant.asked
      c.find.ensures.asked;
  known = c.in_ok-find.ensures.known;
}

pub returns-in_err-find-clause-asked : goal.returns-in_err-find-clause-asked
returns-in_err-find-clause-asked g c = search (arith, asked_then)
