use Rattle.std.proofs.Common.{ap, sym, ◌∙◌, take, arith}
use Rattle.dq_formula.specs.Dependencies.{dependencies}
use Rattle.dq_lits.proofs.FormulaVariables.{seen_as}
use Rattle.definition_order.proofs.Firsts.{firsts_tested, seen_told}
use Rattle.definition_order.proofs.shared.sees_first.Goals as goal

pub returns-in-FirstOf : goal.returns-in-FirstOf
returns-in-FirstOf c = search (arith, firsts_tested, seen_as)

pub returns-in-Listed : goal.returns-in-Listed
returns-in-Listed c = λ e known.
    let f = c.args.f.now in
    let us = f.universals in
    seen_told c.items.result.now e.sees (take c.args.count us) c.begins_with_first.result
    (c.items.ensures ∙ ap (dependencies us) (sym c.in-Listed.is) ∙ seen_as f c.args.y
    (dependencies us c.deps_of.result.now) c.deps_of.ensures.set e known) c.begins_with_first.ensures
