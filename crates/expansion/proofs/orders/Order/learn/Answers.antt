use Rattle.std.proofs.Common.{◌+◌, sym, ap, ◌∙◌, subst}
use Rattle.std.specs.List.{insert}
use Rattle.dq_lits.specs.Formula.{existential_of}
use Rattle.expansion.specs.FirstRows.{RowOrder, IsRowOrder, sees_of}
use Rattle.expansion.proofs.RowOrders.{learnt_new, learnt_found}
use Rattle.expansion.proofs.orders.Order.learn.Goals.{in-Err+in_ok-insert, in_default}
use Rattle.expansion.proofs.orders.Order.learn.Goals as goal

pub returns-clause-order : goal.returns-clause-order
returns-clause-order c =
    let f = c.args.f.now in
    let sees = sees_of (existential_of f c.args.y) in
    let rows = c.args.rows.now in
    let o = c.args.self.now in
    let k = c.args.k in
    let same = c.deref.ensures.value ∙ ap (λ (v : RowOrder). v.places) c.self.view_is in
    let row = c.index-rows-k.result in
    elim c.match-search.branch [
      | in-Err+in_ok-insert w ↦
          subst (λ ps. IsRowOrder f sees rows (record { places = ps; learnt = k + 1 }))
          (sym (ap (λ v. v.places.items) w.self-inside-is ∙ w.in_ok-insert.ensures.items ∙ ap
          (λ ps. insert ps w.in-Err.at k) (sym c.deref.ensures.value)))
          (learnt_new f sees rows o c.requires.order c.deref.result.now same row k c.index-rows-k.is c.requires.next
          c.requires.row w.in-Err.at w.in-Err.ensures.within w.in-Err.ensures.found)
      | in_default w ↦
          subst (λ ps. IsRowOrder f sees rows (record { places = ps; learnt = k + 1 }))
          (sym (ap (λ v. v.places.items) w.self-inside-is ∙ sym c.deref.ensures.value))
          (learnt_found f sees rows o c.requires.order c.deref.result.now same row k c.index-rows-k.is c.requires.next
          c.requires.row w.in_default.field-0 w.in_default.ensures.within w.in_default.ensures.found)
    ]
