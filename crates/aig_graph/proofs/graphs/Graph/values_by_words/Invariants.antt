use Rattle.aig_graph.proofs.BufferedValues.{IsWrittenTo}
use Rattle.aig_graph.proofs.graphs.Graph.values_by_words.Given as goal

abbrev pub invariant-loop-place : goal.invariant-loop-place
invariant-loop-place l = IsWrittenTo l.self l.nodes l.inputs l.fn.out l.out l.place
