use Rattle.dqcheck_words.proofs.Readings.{names_behind_separator}
use Rattle.dqcheck_words.proofs.laws.names_behind_separator_are_taken.Goals as goal

pub returns : goal.returns
returns c = names_behind_separator
