use Rattle.dq_lits.proofs.LiftedExpansion.{expansion_refutes}
use Rattle.dq_lits.proofs.laws.expansion_lifts.Goals as goal

pub returns : goal.returns
returns c = expansion_refutes
