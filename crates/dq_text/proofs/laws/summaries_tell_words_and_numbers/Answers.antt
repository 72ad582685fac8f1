use Rattle.dq_text.proofs.KeptBytes.{head_is_kept, minus_is_kept, number_is_kept}
use Rattle.dq_text.proofs.laws.summaries_tell_words_and_numbers.Goals as goal

pub returns-clause-head : goal.returns-clause-head
returns-clause-head c = head_is_kept

pub returns-clause-minus : goal.returns-clause-minus
returns-clause-minus c = minus_is_kept

pub returns-clause-number : goal.returns-clause-number
returns-clause-number c = number_is_kept
