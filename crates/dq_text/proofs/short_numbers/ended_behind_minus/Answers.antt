use Rattle.std.proofs.Common.{◌≤◌, arith}
use Rattle.dq_text.proofs.EndedNumbers.{negative_number}
use Rattle.dq_text.proofs.ShortNumbers.{above_limit}
use Rattle.dq_text.proofs.short_numbers.ended_behind_minus.Goals as goal

pub returns : goal.returns
returns c =
    let value = c.in_ok-value.value in
    let some : 1 ≤ value = omega (arith, c.if-value-eq0.false) in
    negative_number c.args.digits.now c.in_ok-value.behind.now value _ some c.in_ok-value.ensures
    (above_limit c.negated.result value c.in_ok-value.ensures.small c.negated.ensures)
