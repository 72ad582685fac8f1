use Rattle.std.proofs.Common.{arith}
use Rattle.refutation_checker.proofs.RowTrees.{steps_on, walk_on}
use Rattle.refutation_checker.proofs.row_trees.reached.Goals as goal

pub loop-further-preserved : goal.loop-further-preserved
loop-further-preserved c = search (arith, steps_on, walk_on)
