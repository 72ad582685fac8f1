use Rattle.dq_lits.proofs.FormulaVariables.{seen_as}
use Rattle.definition_order.proofs.Firsts.{seen_told}
use Rattle.definition_order.proofs.shared.sees_all.Goals as goal

pub returns : goal.returns
returns c = λ e known.
    seen_told c.seen.result.now e.sees c.args.xs.now c.are_among.result
    (seen_as c.args.f.now c.args.y c.seen.result.now c.seen.ensures.set e known) c.are_among.ensures
