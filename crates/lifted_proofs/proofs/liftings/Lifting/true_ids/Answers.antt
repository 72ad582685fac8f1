use Rattle.std.proofs.Common.{arith}
use Rattle.lifted_proofs.proofs.NamedClauses.{gone-place}
use Rattle.lifted_proofs.proofs.LiftedNames.{true-more}
use Rattle.lifted_proofs.proofs.liftings.Lifting.true_ids.Goals as goal

pub true_place-literal-requires-clause-within : goal.true_place-literal-requires-clause-within
true_place-literal-requires-clause-within c = search (arith, gone-place)

pub true_place-literal-requires-clause-satisfied : goal.true_place-literal-requires-clause-satisfied
true_place-literal-requires-clause-satisfied c = search (arith, gone-place)

pub loop-k-preserved : goal.loop-k-preserved
loop-k-preserved c =
    search (
      arith,
      (true-more c.args.self.now c.requires.lifting c.args.dropped.now c.loop-k.k c.literal_id.result c.true_place-literal.result c.loop-k.ids.items c.push.new.self.items c.requires.dropped c.loop-k-test.true c.true_place-literal.ensures.within c.true_place-literal.ensures.held c.literal_id.ensures.value c.literal_id.ensures.before c.loop-k.invariant c.in_ok-push.ensures.items),
    )
