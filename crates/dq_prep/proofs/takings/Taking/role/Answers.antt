use Rattle.std.proofs.Common.{◌≡◌, ◌==◌, Some, None, sym, ◌∙◌, subst}
use Rattle.std.specs.List.{position}
use Rattle.dq_formula.specs.Prefix.{existential_variables}
use Rattle.dq_prep.specs.Units.{taken_literals}
use Rattle.dq_prep.proofs.LiteralRoles.{role-by-place, role-of-unplaced}
use Rattle.dq_prep.proofs.takings.Taking.role.Goals as goal

pub returns-in-Some : goal.returns-in-Some
returns-in-Some c =
    let f = c.args.self.now.formula.now in
    let found = subst (λ n. position (λ v. v == n)
    (existential_variables f) ≡ Some c.in-Some.place) c.var.ensures.value
    (sym c.existential_place.ensures ∙ c.in-Some.is) in
    role-by-place f (taken_literals c.args.self.now.trace) c.args.self.now.values.items c.args.l c.in-Some.place
    c.index.result.now c.is_neg.result c.role_by.result c.requires.right.well c.requires.right.values found
    c.index.ensures c.is_neg.ensures c.role_by.ensures

pub returns-in-None : goal.returns-in-None
returns-in-None c =
    let f = c.args.self.now.formula.now in
    let none : position (λ v. v == c.var.result) (existential_variables f) ≡ None = sym c.existential_place.ensures
    ∙ c.in-None.is in
    role-of-unplaced f (taken_literals c.args.self.now.trace) c.args.l c.requires.bound
    (subst (λ n. position (λ v. v == n) (existential_variables f) ≡ None) c.var.ensures.value none)
