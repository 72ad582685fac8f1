use Rattle.std.proofs.Common.{sym, ◌∙◌}
use Rattle.definition_order.proofs.Declared.{is_variable, place_is}
use Rattle.dq_formula.specs.Prefix.{existential_variables}
use Rattle.dq_formula.proofs.Subsets.{none_contained}
use Rattle.definition_order.proofs.shared.place_of.Goals as goal

pub unreachable-requires : goal.unreachable-requires
unreachable-requires c = none_contained (existential_variables c.args.f.now) c.args.y
    (sym c.existential_place.ensures ∙ c.in-None.is) (is_variable c.args.f.now c.args.y c.requires)

pub returns : goal.returns
returns c = λ e known. place_is c.args.f.now c.every_formula_is_lawful.ensures c.args.y c.in-Some.place e
    (sym c.existential_place.ensures ∙ c.in-Some.is) known
