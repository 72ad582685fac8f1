use Rattle.std.proofs.Common.{arith}
use Rattle.defined_checker.proofs.LeastForeign.{answer, with_one}
use Rattle.defined_checker.proofs.reads.least_foreign.Goals as goal

pub loop-leaf-preserved : goal.loop-leaf-preserved
loop-leaf-preserved c e is = search (arith, with_one)

pub returns : goal.returns
returns c e is =
    answer c.args.f.now e c.args.leaves.now c.loop-leaf.leaf-index c.loop-leaf.least c.loop-leaf-test.false
    c.loop-leaf.auto.leaf-index-end (c.loop-leaf.invariant e is)
