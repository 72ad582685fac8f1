use Rattle.circuit_cnf.proofs.ShownOutputs.{outputs_hold}
use Rattle.circuit_cnf.proofs.laws.shown_outputs_hold.Goals as goal

pub returns : goal.returns
returns c = outputs_hold c.leaves_solve.ensures c.leaves_have_nodes_values.ensures
