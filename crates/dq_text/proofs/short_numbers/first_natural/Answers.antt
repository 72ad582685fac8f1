use Rattle.std.proofs.Common.{◌≤◌, ◌-◌, length, take, drop, refl, arith}
use Rattle.dq_text.proofs.ShortNumbers.{natural_found, all_behind}
use Rattle.dq_text.proofs.short_numbers.first_natural.Goals as goal

pub returns : goal.returns
returns c =
    let bytes = c.args.bytes.now in
    let value = c.leading_value-value.result.0 in
    let count = c.leading_value-value.result.1 in
    let some : 1 ≤ count = omega (arith, c.if-count-eq0.false) in
    let behind = all_behind bytes (length bytes) count refl in
    natural_found bytes c.first_bytes.result.now (take (length bytes - count) (drop count bytes))
    c.in_ok-behind.behind.now value count
    c.first_bytes.ensures c.leading_value-value.ensures some behind c.in_ok-behind.ensures.ends
    c.in_ok-behind.ensures.same
