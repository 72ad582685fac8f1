use Rattle.std.proofs.Common.{sym, ap, ◌∙◌, get_or}
use Rattle.dq_lits.specs.Formula.{existential_of}
use Rattle.expansion.specs.FirstRows.{RowOrder, sees_of}
use Rattle.expansion.proofs.RowOrders.{first_found, first_none}
use Rattle.expansion.proofs.orders.Order.first.Goals as goal

pub returns-in-Ok : goal.returns-in-Ok
returns-in-Ok c =
    let same = c.deref.ensures.value ∙ ap (λ (v : RowOrder). v.places) c.self.view_is in
    let at = c.in-Ok.at in
    c.index.ensures ∙ ap (λ ps. get_or ps at c.index.result.now) (sym c.deref.ensures.value)
    ∙ first_found c.args.f.now (sees_of (existential_of c.args.f.now c.args.y)) c.args.rows.now c.args.self.now
    c.requires.order c.deref.result.now same c.args.row.now at c.index.result.now
    c.in-Ok.ensures.within c.in-Ok.ensures.found

pub returns-in-Err : goal.returns-in-Err
returns-in-Err c =
    let same = c.deref.ensures.value ∙ ap (λ (v : RowOrder). v.places) c.self.view_is in
    first_none c.args.f.now (sees_of (existential_of c.args.f.now c.args.y)) c.args.rows.now c.args.self.now
    c.requires.order c.deref.result.now same c.args.row.now c.in-Err.field-0 c.requires.all
    c.in-Err.ensures.found
