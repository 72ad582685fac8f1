use Rattle.std.proofs.Common.{arith}
use Rattle.aig_graph.proofs.Sides.{swapped_some}
use Rattle.aig_graph.proofs.graphs.Graph.by_sides.Goals as goal

pub returns-in-None : goal.returns-in-None
returns-in-None c = search (arith, swapped_some)
