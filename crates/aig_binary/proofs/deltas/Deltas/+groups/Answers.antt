use Rattle.std.proofs.Common.{◌-◌, arith}
use Rattle.aig_binary.proofs.Bounds.{one_group, more_groups, at_most, delta_stops}
use Rattle.aig_binary.proofs.deltas.Deltas.+groups.Goals as goal

pub returns-then-byte-lt128-clause-small : goal.returns-then-byte-lt128-clause-small
returns-then-byte-lt128-clause-small t c = search (arith, (one_group c.args.most c.from.result))

pub overflow_mul-result : goal.overflow_mul-result
overflow_mul-result t c =
    let less = c.in-Ok.ensures.small in
    let most = at_most (c.args.most - 1) (omega (arith, c.requires)) in
    omega (arith, less, most)

pub overflow_add-result : goal.overflow_add-result
overflow_add-result t c =
    let less = c.in-Ok.ensures.small in
    let most = at_most (c.args.most - 1) (omega (arith, c.requires)) in
    omega (arith, less, most)

pub returns-in-Ok-clause-small : goal.returns-in-Ok-clause-small
returns-in-Ok-clause-small t c = search (arith, more_groups)

pub returns-in-Err-clause-read : goal.returns-in-Err-clause-read
returns-in-Err-clause-read t c = search (arith, delta_stops)
