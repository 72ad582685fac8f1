use Rattle.dqsolve_words.proofs.Spelled.{command_is_spelled}
use Rattle.dqsolve_words.proofs.laws.words_are_spelled.Goals as goal

pub returns : goal.returns
returns c = command_is_spelled
