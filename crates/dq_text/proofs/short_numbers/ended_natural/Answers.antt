use Rattle.std.proofs.Common.{◌≤◌, ◌-◌, length, take, drop, refl, sym, ◌∙◌, arith}
use Rattle.dq_text.proofs.EndedNumbers.{natural_ended}
use Rattle.dq_text.proofs.ShortNumbers.{all_behind}
use Rattle.dq_text.proofs.short_numbers.ended_natural.Goals as goal

pub returns : goal.returns
returns c =
    let bytes = c.args.bytes.now in
    let value = c.leading_value-value.result.0 in
    let count = c.leading_value-value.result.1 in
    let some : 1 ≤ count = omega (arith, c.if-count-eq0.false) in
    natural_ended bytes c.first_bytes.result.now (take (length bytes - count) (drop count bytes)) value count
    c.first_bytes.ensures c.leading_value-value.ensures some (all_behind bytes (length bytes) count refl)
    (sym c.begins_with_separator.ensures ∙ c.if-not-begins_with_separator.false)
