use Rattle.aig_graph.proofs.LargerGraphs.{extends}
use Rattle.aig_graph.proofs.graphs.Graph.cube.Goals as goal

pub returns-else-is_err-clause-extends : goal.returns-else-is_err-clause-extends
returns-else-is_err-clause-extends c = extends c.args.self.now c.cube_gates-made.new.self
    c.cube_gates-made.ensures.grown
