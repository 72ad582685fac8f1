use Rattle.dq_lits.proofs.Choices.{choice_of, choice_of-value}
use Rattle.dq_lits.proofs.laws.functions_are_choices.Goals as goal

pub returns : goal.returns
returns c values = (choice_of values, choice_of-value values)
