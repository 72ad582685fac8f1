use Rattle.aiger_text.proofs.NumberNames.{number_is_name}
use Rattle.aiger_text.proofs.laws.numbers_are_names.Goals as goal

pub returns : goal.returns
returns c = number_is_name
