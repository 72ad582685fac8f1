use Rattle.std.proofs.Common.{take}
use Rattle.aig_graph.proofs.ConeMarks.{AreRootMarks}
use Rattle.aig_graph.proofs.graphs.Graph.mark_all.Given as goal

abbrev pub invariant-loop-n : goal.invariant-loop-n
invariant-loop-n l = AreRootMarks l.self (take l.n-index l.nodes) l.fn.marks l.marks
