use Rattle.aig_binary.proofs.Exactness.{spelled_is_scanned, scanned_is_spelled}
use Rattle.aig_binary.proofs.laws.binary_circuit_or_first_fault.Goals as goal

pub returns : goal.returns
returns c text first read = (spelled_is_scanned text first read, scanned_is_spelled text first read)
