use Rattle.std.proofs.Common.{ap, sym, ◌∙◌, take}
use Rattle.dq_formula.specs.Dependencies.{dependencies}
use Rattle.dq_lits.proofs.FormulaVariables.{seen_as}
use Rattle.definition_order.proofs.Firsts.{those_told}
use Rattle.definition_order.proofs.shared.sees_no_more.Goals as goal

pub returns-in-FirstOf : goal.returns-in-FirstOf
returns-in-FirstOf c = λ d e first second.
    let f = c.args.f.now in
    let us = f.universals in
    those_told e.sees (take c.in-FirstOf.count us) d.sees c.sees_first.result
    (ap (dependencies us) (sym c.in-FirstOf.is) ∙ seen_as f c.args.z
    (dependencies us c.deps_of.result.now) c.deps_of.ensures.set d first) (c.sees_first.ensures e second)

pub returns-in-Listed : goal.returns-in-Listed
returns-in-Listed c = λ d e first second.
    let f = c.args.f.now in
    let us = f.universals in
    those_told e.sees c.items.result.now d.sees c.sees_listed.result
    (c.items.ensures ∙ ap (dependencies us) (sym c.in-Listed.is) ∙ seen_as f c.args.z
    (dependencies us c.deps_of.result.now) c.deps_of.ensures.set d first) (c.sees_listed.ensures e second)
