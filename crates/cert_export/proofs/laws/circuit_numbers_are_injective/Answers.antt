use Rattle.cert_export.proofs.CircuitNumbers.{circuit_numbers_are_injective}
use Rattle.cert_export.proofs.laws.circuit_numbers_are_injective.Goals as goal

pub returns : goal.returns
returns c = circuit_numbers_are_injective
