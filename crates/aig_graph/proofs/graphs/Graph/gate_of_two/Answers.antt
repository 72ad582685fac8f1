use Rattle.std.proofs.Common.{arith}
use Rattle.aig_graph.proofs.MadeNodes.{swapped_if}
use Rattle.aig_graph.proofs.graphs.Graph.gate_of_two.Goals as goal

pub returns-then-goes_first-clause-made : goal.returns-then-goes_first-clause-made
returns-then-goes_first-clause-made c = search (arith, swapped_if)
