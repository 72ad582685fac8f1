use Rattle.log_laws.proofs.FewRows.{few_rounds}
use Rattle.log_laws.proofs.laws.rounds_are_few.Goals as goal

pub returns : goal.returns
returns c = few_rounds
