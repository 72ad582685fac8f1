use Rattle.aig_graph.proofs.LargerGraphs.{extends}
use Rattle.aig_graph.proofs.graphs.Graph.and.Goals as goal

pub returns-in-None-clause-extends : goal.returns-in-None-clause-extends
returns-in-None-clause-extends c = extends c.args.self.now c.gate.new.self c.gate.ensures.grown
