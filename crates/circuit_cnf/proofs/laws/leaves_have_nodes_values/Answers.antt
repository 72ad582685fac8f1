use Rattle.circuit_cnf.proofs.LeafNodes.{leaves_have_nodes_values}
use Rattle.circuit_cnf.proofs.laws.leaves_have_nodes_values.Goals as goal

pub returns : goal.returns
returns c = leaves_have_nodes_values
