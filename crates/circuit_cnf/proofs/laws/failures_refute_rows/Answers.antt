use Rattle.circuit_cnf.proofs.OutputValues.{failures_refute_rows}
use Rattle.circuit_cnf.proofs.laws.failures_refute_rows.Goals as goal

pub returns : goal.returns
returns c = failures_refute_rows
