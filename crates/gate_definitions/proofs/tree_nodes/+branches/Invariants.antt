use Rattle.std.proofs.Common.{◌+◌, ◌-◌, ◌*◌, length}
use Rattle.gate_definitions.proofs.tree_nodes.+branches.Given as goal

-- the tests that may still come, and which of the three functions is next
abbrev pub decreases-branch_node : goal.decreases-branch_node
decreases-branch_node l = 3 * (10 - length l.path.now) + 2

abbrev pub decreases-test_node : goal.decreases-test_node
decreases-test_node l = 3 * (10 - length l.path.now) + 1

abbrev pub decreases-side_node : goal.decreases-side_node
decreases-side_node l = 3 * (10 - length l.path.now)
