use Rattle.cert_export.proofs.CircuitClauses.{circuit_clauses_are_negated_matrix}
use Rattle.cert_export.proofs.laws.circuit_clauses_are_negated_matrix.Goals as goal

pub returns : goal.returns
returns c = circuit_clauses_are_negated_matrix
