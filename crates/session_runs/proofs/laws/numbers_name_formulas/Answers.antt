use Rattle.session_runs.proofs.SessionInvariant.{numbers-name-formulas}
use Rattle.session_runs.proofs.laws.numbers_name_formulas.Goals as goal

pub returns : goal.returns
returns c = numbers-name-formulas
