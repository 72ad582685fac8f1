use Rattle.dq_text.proofs.EndedNumbers.{natural_number}
use Rattle.dq_text.proofs.ShortNumbers.{below_limit}
use Rattle.dq_text.proofs.short_numbers.ended_without_minus.Goals as goal

pub returns : goal.returns
returns c =
    let value = c.in_ok-value.value in
    natural_number c.args.bytes.now c.in_ok-value.behind.now value _ c.in_ok-value.ensures
    (below_limit c.as_signed.result value c.in_ok-value.ensures.small c.as_signed.ensures)
