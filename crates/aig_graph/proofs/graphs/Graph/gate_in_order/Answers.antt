use Rattle.std.proofs.Common.{arith}
use Rattle.aig_graph.proofs.MadeNodes.{pushed_grown, pushed_made}
use Rattle.aig_graph.proofs.LargerGraphs.{gate_is_made}
use Rattle.aig_graph.proofs.graphs.Graph.gate_in_order.Goals as goal

pub returns-in-Some-clause-made : goal.returns-in-Some-clause-made
returns-in-Some-clause-made c = gate_is_made c.args.self.now c.every_graph_is_lawful.ensures c.in-Some.g c.args.a
    c.args.b c.in-Some.ensures

pub returns-in-None-clause-grown : goal.returns-in-None-clause-grown
returns-in-None-clause-grown c = search (arith, pushed_grown)

pub returns-in-None-clause-made : goal.returns-in-None-clause-made
returns-in-None-clause-made c = search (arith, pushed_made)
