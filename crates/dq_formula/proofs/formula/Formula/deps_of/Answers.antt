use Rattle.std.proofs.Common.{◌≡◌, ◌∙◌, sym, ap, refl, eqb, None, Some, true≢false, arith}
use Rattle.std.specs.Map.{lookup}
use Rattle.std.specs.Option.{option_copied}
use Rattle.std.proofs.lemmas.Map.Views.{IfSome-lookup_from_All}
use Rattle.dq_formula.proofs.Entries.{find-existential}
use Rattle.dq_formula.specs.Dependencies.{IsDependencySet}
use Rattle.dq_formula.proofs.formula.Formula.deps_of.Goals as goal

pub unreachable-requires : goal.unreachable-requires
unreachable-requires c =
    let f = c.self.inside in
    let none : lookup (eqb c.args.y) f.existentials ≡ None = sym c.set_of.ensures ∙ ap option_copied c.in-None.is in
    let some = rw (← c.self.view_is, find-existential f.universals c.args.y f.existentials, none) at c.requires in
    true≢false (sym some)

pub returns-clause-set : goal.returns-clause-set
returns-clause-set c =
    let f = c.self.inside in
    let some : lookup (eqb c.args.y) f.existentials ≡ Some c.in-Some.deps.now = search arith in
    rw (← c.self.view_is, find-existential f.universals c.args.y f.existentials, some) refl

pub returns-clause-form : goal.returns-clause-form
returns-clause-form c =
    let f = c.self.inside in
    let some : lookup (eqb c.args.y) f.existentials ≡ Some c.in-Some.deps.now = search arith in
    let form = IfSome-lookup_from_All (IsDependencySet f.universals)
    (eqb c.args.y) f.existentials c.self.invariant.sets in
    rw (← c.self.view_is) (rw some at form)
