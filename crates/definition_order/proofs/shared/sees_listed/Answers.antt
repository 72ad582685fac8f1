use Rattle.std.proofs.Common.{ap, sym, ◌∙◌, take}
use Rattle.dq_formula.specs.Dependencies.{dependencies}
use Rattle.dq_lits.proofs.FormulaVariables.{seen_as}
use Rattle.definition_order.proofs.Firsts.{seen_told}
use Rattle.definition_order.proofs.shared.sees_listed.Goals as goal

pub returns-in-FirstOf : goal.returns-in-FirstOf
returns-in-FirstOf c = λ e known.
    let f = c.args.f.now in
    let us = f.universals in
    seen_told (take c.in-FirstOf.n us) e.sees c.args.xs.now c.ends_within.result
    (ap (dependencies us) (sym c.in-FirstOf.is) ∙ seen_as f c.args.y
    (dependencies us c.deps_of.result.now) c.deps_of.ensures.set e known) c.ends_within.ensures
