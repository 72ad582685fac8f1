use Rattle.dqcheck_words.proofs.Readings.{names_taken}
use Rattle.dqcheck_words.proofs.laws.names_are_taken.Goals as goal

pub returns : goal.returns
returns c = names_taken
