use Rattle.std.proofs.Common.{sym, ◌∙◌}
use Rattle.definition_order.proofs.ReadableExistentials.{shared_by_place, none_shared_there}
use Rattle.definition_order.proofs.reads.is_shared.Goals as goal

pub returns-in-Some : goal.returns-in-Some
returns-in-Some c = λ e known.
    shared_by_place c.args.f.now c.every_formula_is_lawful.ensures c.args.ranks.now e c.args.v c.in-Some.place
    c.is_shared_at.result (sym c.existential_place.ensures ∙ c.in-Some.is)
    (λ z at. c.is_shared_at.ensures e z known at)

pub returns-in-None : goal.returns-in-None
returns-in-None c = λ e _. none_shared_there c.args.f.now c.args.ranks.now e c.args.v
    (sym c.existential_place.ensures ∙ c.in-None.is)
