use Rattle.std.proofs.Common.{◌≡◌, None, Some, position, eqb, ap, sym, subst, ◌∙◌, arith}
use Rattle.std.specs.List.{IsDistinct}
use Rattle.std.proofs.lemmas.Option.{IfSome_then}
use Rattle.dq_lits.specs.Formula.{Existential, Dqbf}
use Rattle.dq_formula.specs.Dependencies.{dependencies, IsDependencySet}
use Rattle.dq_formula.proofs.Distinct.{sees-none, sees-first, sees-listed}
use Rattle.dq_formula.proofs.formula.Formula.sees.Goals as goal

pub returns-in_default : goal.returns-in_default
returns-in_default c =
    let us = c.args.self.now.universals in
    let same : c.self.inside.universals ≡ us = ap (λ (f : Dqbf). f.universals) c.self.view_is in
    let none : position (eqb c.args.x) us ≡ None = search arith in
    IfSome_then _ c.deps_of-deps.ensures.set (λ (e : Existential) set. sees-none us c.deps_of-deps.result.now e.sees
    c.args.x c.deps_of-deps.ensures.form set none)

pub returns-in-FirstOf : goal.returns-in-FirstOf
returns-in-FirstOf c =
    let us = c.args.self.now.universals in
    let n = c.in-FirstOf.n in
    let same : c.self.inside.universals ≡ us = ap (λ (f : Dqbf). f.universals) c.self.view_is in
    let distinct : IsDistinct eqb us = subst (IsDistinct eqb) same c.self.invariant.distinct_universals in
    let place : position (eqb c.args.x) us ≡ Some c.in-Some.place = search arith in
    let form = subst (IsDependencySet us) c.in-FirstOf.is c.deps_of-deps.ensures.form in
    IfSome_then _ c.deps_of-deps.ensures.set (λ (e : Existential) set. sees-first us n e.sees c.args.x c.in-Some.place
    distinct form (ap (dependencies us) (sym c.in-FirstOf.is) ∙ set) place)

pub returns-in-Listed : goal.returns-in-Listed
returns-in-Listed c =
    let us = c.args.self.now.universals in
    let vs = c.in-Listed.vars in
    let same : c.self.inside.universals ≡ us = ap (λ (f : Dqbf). f.universals) c.self.view_is in
    let distinct : IsDistinct eqb us = subst (IsDistinct eqb) same c.self.invariant.distinct_universals in
    let place : position (eqb c.args.x) us ≡ Some c.in-Some.place = search arith in
    let form = subst (IsDependencySet us) c.in-Listed.is c.deps_of-deps.ensures.form in
    let range = rw c.items.ensures at c.finds.ensures.within in
    let result = rw c.items.ensures at c.finds.ensures.found in
    rw c.is_ok.ensures.value
    (IfSome_then _ c.deps_of-deps.ensures.set (λ (e : Existential) set. sees-listed us vs e.sees c.args.x
    c.in-Some.place c.finds.result distinct form (ap (dependencies us) (sym c.in-Listed.is) ∙ set) place range
    result))
