use Rattle.aig_graph.proofs.NodeReads.{AreMarks}
use Rattle.aig_graph.proofs.graphs.Graph.support.Given as goal

abbrev pub invariant-loop-at : goal.invariant-loop-at
invariant-loop-at l = AreMarks l.fn.self l.fn.n l.fn.marks l.marks l.at

abbrev pub decreases-loop-at : goal.decreases-loop-at
decreases-loop-at l = l.at
