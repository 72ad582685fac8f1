use Rattle.rup_core.proofs.DeletedClauses.{derivation_refutes}
use Rattle.rup_core.proofs.laws.deleting_derivation_is_sound.Goals as goal

pub returns : goal.returns
returns c = derivation_refutes c.derived_line_is_implied.ensures
