use Rattle.dq_lits.proofs.Derivations.{derivation_refutes}
use Rattle.dq_lits.proofs.laws.derivation_is_sound.Goals as goal

pub returns : goal.returns
returns c = derivation_refutes
