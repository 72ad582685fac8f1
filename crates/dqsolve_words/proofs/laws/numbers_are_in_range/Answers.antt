use Rattle.std.proofs.Common.{◌∙◌}
use Rattle.dqsolve_words.proofs.Numbers.{asked_range}
use Rattle.dqsolve_words.proofs.Spelled.{command_is_spelled}
use Rattle.dqsolve_words.proofs.laws.numbers_are_in_range.Goals as goal

pub returns : goal.returns
returns c words command is = asked_range words command (command_is_spelled words ∙ is)
