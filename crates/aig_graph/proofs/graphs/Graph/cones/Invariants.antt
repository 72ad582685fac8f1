use Rattle.aig_graph.proofs.ConeMarks.{AreCones}
use Rattle.aig_graph.proofs.graphs.Graph.cones.Given as goal

abbrev pub invariant-loop-at : goal.invariant-loop-at
invariant-loop-at l = AreCones l.fn.self l.fn.nodes l.fn.marks l.marks l.at

abbrev pub decreases-loop-at : goal.decreases-loop-at
decreases-loop-at l = l.at
