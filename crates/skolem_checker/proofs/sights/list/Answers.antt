use Rattle.std.proofs.Common.{arith}
use Rattle.skolem_checker.proofs.SightsLaws.{listed_so_far}
use Rattle.skolem_checker.proofs.sights.list.Goals as goal

pub loop-x-preserved : goal.loop-x-preserved
loop-x-preserved c =
    search (
      arith,
      (listed_so_far c.args.f.now c.args.universals.now c.loop-x.listed c.list_one.new.listed c.args.i c.loop-x.x-index c.loop-x-test.true c.loop-x.invariant.lists c.list_one.ensures.lists),
    )
