use Rattle.dqcheck_words.proofs.Readings.{text_behind_minus}
use Rattle.dqcheck_words.proofs.laws.text_behind_minus_is_option.Goals as goal

pub returns : goal.returns
returns c = text_behind_minus
