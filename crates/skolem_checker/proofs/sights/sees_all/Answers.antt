use Rattle.std.proofs.lemmas.Bool.{leb-true}
use Rattle.dq_formula.specs.declared.dependencies.Deps.TheVariants.{FirstOf}
use Rattle.skolem_checker.proofs.SightsLaws.{sees_whole, set_told}
use Rattle.skolem_checker.proofs.sights.sees_all.Goals as goal

pub returns-in-FirstOf : goal.returns-in-FirstOf
returns-in-FirstOf c whole e is q below =
    let us = c.args.f.now.universals in
    sees_whole us e.sees c.in-FirstOf.n q (set_told _ e us _
    (FirstOf c.in-FirstOf.n) c.deps_of.ensures.set is c.in-FirstOf.is)
    (rw c.universals.ensures at (leb-true _ _ whole)) below
