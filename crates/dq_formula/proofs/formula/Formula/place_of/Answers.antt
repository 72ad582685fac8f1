use Rattle.std.proofs.Common.{◌∙◌, sym, arith}
use Rattle.list_laws.proofs.Folds.{place_holds}
use Rattle.dq_formula.proofs.Places.{place-absent}
use Rattle.dq_formula.proofs.Subsets.{none_contained}
use Rattle.dq_formula.proofs.formula.Formula.place_of.Goals as goal

pub returns-in-Some-clause-found : goal.returns-in-Some-clause-found
returns-in-Some-clause-found c = λ among. place_holds c.args.self.now.universals c.args.x c.in-Some.place
    (sym c.universal_place.ensures ∙ c.in-Some.is)

pub returns-in-None-clause-place : goal.returns-in-None-clause-place
returns-in-None-clause-place c = search (arith, place-absent)

pub returns-in-None-clause-found : goal.returns-in-None-clause-found
returns-in-None-clause-found c = λ among. absurd (none_contained c.args.self.now.universals c.args.x
    (sym c.universal_place.ensures ∙ c.in-None.is) among)
