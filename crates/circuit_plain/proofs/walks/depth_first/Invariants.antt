use Rattle.std.proofs.Common.{◌+◌, ◌*◌, not, length}
use Rattle.std.specs.List.{count_by}
use Rattle.circuit_plain.proofs.WalkSteps.{WalkSoFar}
use Rattle.circuit_plain.proofs.walks.depth_first.Given as goal

abbrev pub invariant-loop-task : goal.invariant-loop-task
invariant-loop-task l = WalkSoFar (length l.gates) l.seen.items l.places.items l.tasks.items

-- each gate is visited once, and its visit adds three tasks at most
abbrev pub decreases-loop-task : goal.decreases-loop-task
decreases-loop-task l = length l.tasks.items + 3 * count_by not l.seen.items
