use Rattle.std.proofs.Common.{get_or, ◌≡◌, IfSome, take, sym, subst}
use Rattle.std.specs.List.{All, Contains}
use Rattle.std.proofs.lemmas.List.{get_or_default}
use Rattle.dq_lits.specs.Formula.{existential_of}
use Rattle.dq_formula.specs.Dependencies.{dependencies, IsDependencySet}
use Rattle.dq_formula.specs.declared.dependencies.Deps.TheVariants.{Listed}
use Rattle.dq_formula.proofs.Distinct.{All-dependencies}
use Rattle.copied_prefixes.proofs.CopiedPrefixes.{sees-among}
use Rattle.copied_prefixes.proofs.end_of.Goals as goal

pub end_of_list-requires : goal.end_of_list-requires
end_of_list-requires c =
    let us = c.args.f.now.universals in
    let form = subst (IsDependencySet us) c.in-Listed.is c.deps_of.ensures.form in
    subst (All (Contains us)) (sym c.items.ensures) (All-dependencies us (Listed c.in-Listed.vars) form)

pub returns-in-FirstOf-clause-end : goal.returns-in-FirstOf-clause-end
returns-in-FirstOf-clause-end c =
    let f = c.args.f.now in
    let us = f.universals in
    let o = existential_of f c.args.y in
    let set = subst (λ s. IfSome o (λ e. dependencies us s ≡ e.sees)) c.in-FirstOf.is c.deps_of.ensures.set in
    sees-among f o c.in-FirstOf.n (take c.in-FirstOf.n us) set
    (λ k d below. (k, below, get_or_default (take c.in-FirstOf.n us) k (get_or (take c.in-FirstOf.n us) k d) d below))

pub returns-in-Listed-clause-end : goal.returns-in-Listed-clause-end
returns-in-Listed-clause-end c =
    let f = c.args.f.now in
    let us = f.universals in
    let o = existential_of f c.args.y in
    let set = subst (λ s. IfSome o (λ e. dependencies us s ≡ e.sees)) c.in-Listed.is c.deps_of.ensures.set in
    sees-among f o c.end_of_list.result c.in-Listed.vars set
    (subst (All (Contains (take c.end_of_list.result us))) c.items.ensures c.end_of_list.ensures.end)
