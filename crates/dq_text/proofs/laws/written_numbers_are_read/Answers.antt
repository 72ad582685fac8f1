use Rattle.dq_text.proofs.Numerals.{natural_is_read, minus_is_read}
use Rattle.dq_text.proofs.laws.written_numbers_are_read.Goals as goal

pub returns-clause-natural : goal.returns-clause-natural
returns-clause-natural c = natural_is_read

pub returns-clause-negative : goal.returns-clause-negative
returns-clause-negative c = minus_is_read
