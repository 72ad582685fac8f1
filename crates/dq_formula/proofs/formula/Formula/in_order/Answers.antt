use Rattle.std.proofs.Common.{sym, ◌∙◌, ap}
use Rattle.dq_formula.specs.Dependencies.{listed_universals}
use Rattle.dq_formula.proofs.formula.Formula.in_order.Goals as goal

pub returns-then-are_in_order-clause-form : goal.returns-then-are_in_order-clause-form
returns-then-are_in_order-clause-form c =
    let us = c.args.self.now.universals in
    let is = c.from_vec.ensures ∙ c.in_ok-vars.ensures.items in
    is ∙ sym (c.are_in_order.ensures c.if-are_in_order.true) ∙ ap (listed_universals us) (sym is)
