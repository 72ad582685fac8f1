use Rattle.dq_text.proofs.ShortNumbers.{natural_begins}
use Rattle.dq_text.proofs.short_numbers.short_natural.Goals as goal

pub returns : goal.returns
returns c = natural_begins c.args.bytes.now c.in_ok-value.behind.now c.in_ok-value.value c.in_ok-value.ensures
