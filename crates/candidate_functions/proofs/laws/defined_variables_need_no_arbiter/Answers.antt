use Rattle.candidate_functions.proofs.DefinedPoints.{defined_at_pair}
use Rattle.candidate_functions.proofs.laws.defined_variables_need_no_arbiter.Goals as goal

pub returns : goal.returns
returns c = defined_at_pair
