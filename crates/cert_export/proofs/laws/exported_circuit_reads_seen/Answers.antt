use Rattle.cert_export.proofs.ExportedCircuits.{exported_circuit_reads_seen}
use Rattle.cert_export.proofs.laws.exported_circuit_reads_seen.Goals as goal

pub returns : goal.returns
returns c = exported_circuit_reads_seen
