use Rattle.std.proofs.Common.{arith}
use Rattle.definition_order.proofs.Firsts.{universals_apart, too_few, begins_tested}
use Rattle.definition_order.proofs.shared.begins_with_first.Goals as goal

pub returns-then-count-vars : goal.returns-then-count-vars
returns-then-count-vars c =
    search (
      arith,
      (too_few c.args.f.now.universals c.args.vars.now c.args.count c.requires.ordered c.requires.few c.if-count-vars.true),
    )

pub returns : goal.returns
returns c =
    let f = c.args.f.now in
    begins_tested f.universals c.universals.result.now c.args.vars.now c.args.count c.universals.ensures
    (universals_apart f c.every_formula_is_lawful.ensures.prefix) c.requires.ordered
    c.if-count-eq0.false c.requires.few c.if-count-vars.false
