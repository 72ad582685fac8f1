use Rattle.circuit_cnf.proofs.LeafNodes.{leaves_read_nodes_cones}
use Rattle.circuit_cnf.proofs.laws.leaves_read_nodes_cones.Goals as goal

pub returns : goal.returns
returns c = leaves_read_nodes_cones
