use Rattle.dq_prep.proofs.WellFormed.{well-formed}
use Rattle.dq_prep.proofs.laws.simplified_formulas_are_well_formed.Goals as goal

pub returns : goal.returns
returns c = well-formed
