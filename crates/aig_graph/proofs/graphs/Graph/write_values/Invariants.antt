use Rattle.aig_graph.proofs.BufferedValues.{AreValues}
use Rattle.aig_graph.proofs.graphs.Graph.write_values.Given as goal

abbrev pub invariant-loop-g : goal.invariant-loop-g
invariant-loop-g l = AreValues l.fn.self l.fn.buf l.row l.buf l.g
