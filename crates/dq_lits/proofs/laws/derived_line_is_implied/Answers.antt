use Rattle.dq_lits.proofs.Derivations.{derived_line_true}
use Rattle.dq_lits.proofs.laws.derived_line_is_implied.Goals as goal

pub returns : goal.returns
returns c = derived_line_true
