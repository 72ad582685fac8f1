use Rattle.std.proofs.Common.{arith}
use Rattle.cert_export.proofs.ExportableCircuits.{exportable}
use Rattle.cert_export.proofs.circuits.circuit_file.Goals as goal

pub netlist-requires : goal.netlist-requires
netlist-requires c = search (arith, exportable)
