use Rattle.std.proofs.Common.{◌≡◌, map, take}
use Rattle.circuit_cnf.specs.Leaves.{leaf_by}
use Rattle.circuit_cnf.proofs.leaves.node_leaves.Given as goal

abbrev pub invariant-loop-n : goal.invariant-loop-n
invariant-loop-n l = l.leaves.items ≡ map (leaf_by l.inputs l.gates) (take l.n-index l.nodes)
