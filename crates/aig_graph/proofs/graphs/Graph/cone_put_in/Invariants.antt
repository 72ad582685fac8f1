use Rattle.aig_graph.proofs.MadeGates.{ArePutInFrom}
use Rattle.aig_graph.proofs.graphs.Graph.cone_put_in.Given as goal

abbrev pub invariant-loop-at : goal.invariant-loop-at
invariant-loop-at l = ArePutInFrom l.fn.self l.self l.subs l.gates.items l.made l.at

abbrev pub decreases-loop-at : goal.decreases-loop-at
decreases-loop-at l = l.at
