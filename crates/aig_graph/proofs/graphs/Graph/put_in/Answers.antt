use Rattle.aig_graph.proofs.LargerGraphs.{extends}
use Rattle.aig_graph.proofs.graphs.Graph.put_in.Goals as goal

pub returns-else-is_err-clause-extends : goal.returns-else-is_err-clause-extends
returns-else-is_err-clause-extends c = extends c.args.self.now c.cone_put_in-made.new.self
    c.cone_put_in-made.ensures.grown
