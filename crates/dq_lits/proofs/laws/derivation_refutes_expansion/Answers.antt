use Rattle.dq_lits.proofs.Refutations.{derivation_refutes_expansion as from_instances}
use Rattle.dq_lits.proofs.laws.derivation_refutes_expansion.Goals as goal

pub returns : goal.returns
returns c = from_instances
