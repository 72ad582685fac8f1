use Rattle.aig_graph.proofs.LargerGraphs.{extends}
use Rattle.aig_graph.proofs.graphs.Graph.mux.Goals as goal

pub returns-else-is_err-clause-extends : goal.returns-else-is_err-clause-extends
returns-else-is_err-clause-extends c = extends c.args.self.now c.mux_gates-made.new.self c.mux_gates-made.ensures.grown
