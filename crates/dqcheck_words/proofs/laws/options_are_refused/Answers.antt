use Rattle.dqcheck_words.proofs.Readings.{option_refused}
use Rattle.dqcheck_words.proofs.laws.options_are_refused.Goals as goal

pub returns : goal.returns
returns c = option_refused
