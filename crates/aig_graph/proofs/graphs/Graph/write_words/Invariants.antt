use Rattle.aig_graph.proofs.BufferedValues.{AreWords}
use Rattle.aig_graph.proofs.graphs.Graph.write_words.Given as goal

abbrev pub invariant-loop-g : goal.invariant-loop-g
invariant-loop-g l = AreWords l.fn.self l.fn.buf l.inputs l.buf l.g
