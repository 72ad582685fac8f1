use Rattle.circuit_cnf.proofs.ShownOutputs.{outputs_decide}
use Rattle.circuit_cnf.proofs.laws.shown_outputs_decide.Goals as goal

pub returns : goal.returns
returns c = outputs_decide c.leaves_read_nodes_cones.ensures
