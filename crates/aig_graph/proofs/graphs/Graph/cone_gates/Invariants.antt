use Rattle.std.proofs.Common.{length}
use Rattle.aig_graph.proofs.GatheredCones.{AreConeSoFar, lowest}
use Rattle.aig_graph.proofs.graphs.Graph.cone_gates.Given as goal

abbrev pub invariant-loop-g : goal.invariant-loop-g
invariant-loop-g l = AreConeSoFar l.self l.fn.n l.pending l.gates.items

abbrev pub decreases-loop-g : goal.decreases-loop-g
decreases-loop-g l = lowest l.gates.items (length l.self.gates)
