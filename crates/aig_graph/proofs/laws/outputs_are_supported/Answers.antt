use Rattle.aig_graph.proofs.Supported.{output_supported}
use Rattle.aig_graph.proofs.laws.outputs_are_supported.Goals as goal

pub returns : goal.returns
returns c = output_supported
