use Rattle.std.proofs.Common.{◌≡◌, ◌<◌, ◌-◌, length}
use Rattle.refutation_checker.specs.RowTrees.{node_at, walk, reached}
use Rattle.refutation_checker.proofs.row_trees.reached.Given as goal

abbrev pub invariant-loop-further : goal.invariant-loop-further
invariant-loop-further l = (l.at < length l.nodes) × (walk (node_at l.nodes) l.row (length l.nodes) l.at
    ≡ reached l.nodes l.row)

abbrev pub decreases-loop-further : goal.decreases-loop-further
decreases-loop-further l = length l.nodes - l.at
