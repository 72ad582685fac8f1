use Rattle.candidate_functions.specs.Pairs.{universal_places}
use Rattle.candidate_functions.proofs.TreeNodes.{TreeSoFar}
use Rattle.candidate_functions.proofs.trees.Tree.node.Given as goal

abbrev pub invariant-loop-at : goal.invariant-loop-at
invariant-loop-at l = TreeSoFar l.fn.graph l.graph (universal_places l.f l.seen) l.at l.nodes.items

abbrev pub decreases-loop-at : goal.decreases-loop-at
decreases-loop-at l = l.at
