use Rattle.cert_export.proofs.ExportedCircuits.{exported_circuit_is_netlist}
use Rattle.cert_export.proofs.laws.exported_circuit_is_netlist.Goals as goal

pub returns : goal.returns
returns c = exported_circuit_is_netlist
