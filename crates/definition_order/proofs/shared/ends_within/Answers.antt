use Rattle.std.proofs.Common.{sym, ◌∙◌, arith}
use Rattle.definition_order.proofs.Firsts.{universals_apart, not_empty, last_is_there, ends_tested}
use Rattle.definition_order.proofs.shared.ends_within.Goals as goal

pub unreachable-requires : goal.unreachable-requires
unreachable-requires c = search (arith, (last_is_there c.args.f.now.universals c.args.xs.now c.requires.ordered))

pub returns : goal.returns
returns c =
    let f = c.args.f.now in
    ends_tested f.universals c.args.xs.now c.args.count c.in-Some.place
    (universals_apart f c.every_formula_is_lawful.ensures.prefix) c.requires.ordered
    (not_empty c.args.xs.now c.is_empty.result c.is_empty.ensures c.if-is_empty.false)
    (sym c.universal_place.ensures ∙ c.in-Some.is)
