use Rattle.std.proofs.Common.{Err, ap, ◌∙◌}
use Rattle.skolem_checker.proofs.bench.ordered.Goals as goal

pub unreachable-requires : goal.unreachable-requires
unreachable-requires c =
    let first = c.order.ensures.cyclic c.in-Err-Cyclic.field-0-0
    (c.in-Err-Cyclic.is ∙ ap Err c.in-Err-Cyclic.field-0-is) in
    first.outside (c.requires.gates c.in-Err-Cyclic.field-0-0 _ first.in_range)
