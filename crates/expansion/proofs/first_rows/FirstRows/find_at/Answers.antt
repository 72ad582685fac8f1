use Rattle.std.proofs.Common.{◌≡◌, ◌<◌, length, set, get_or, sym, ap, subst, arith}
use Rattle.std.specs.List.{position_or_len}
use Rattle.std.proofs.lemmas.List.{get_or_default}
use Rattle.std.proofs.lemmas.Result.{IfOk-weaker}
use Rattle.dq_lits.specs.Formula.{existential_of}
use Rattle.dq_lits.specs.Henkin.{same_bits}
use Rattle.expansion.specs.FirstRows.{RowIndex, sees_of, seen_by, IsRowIndex, IsFirstRow}
use Rattle.dq_formula.specs.Sets.{IsLeader}
use Rattle.expansion.proofs.NamedArbiters.{found_at}
use Rattle.expansion.proofs.SharedSets.{some_by_variable, leader_first, order_at, order_set, first_by_variable}
use Rattle.expansion.proofs.first_rows.FirstRows.find_at.Goals as goal

pub returns-then-leader-place-clause-first : goal.returns-then-leader-place-clause-first
returns-then-leader-place-clause-first c =
    let f = c.args.new.now.f.now in
    let place = c.args.place in
    let leaders = c.args.self.now.leaders in
    let leader = c.index-leader.result.now in
    let below : place < length leaders = subst (λ n. place < n) (sym c.requires.index.leaders.many) c.requires.place in
    let leader_is : leader ≡ get_or leaders place 0 = found_at c.self.inside.leaders.items leaders place leader
    (ap (λ (i : RowIndex). i.leaders) c.self.view_is) below c.index-leader.ensures in
    let leads : IsLeader f leader place = subst (λ l. IsLeader f l place) (sym leader_is)
    (c.requires.index.leaders.each place c.requires.place) in
    leader_first f c.args.rows.now c.args.new.now.row.now leader place (get_or c.args.firsts.now leader 0) leads
    (c.requires.firsts.1 leader c.if-leader-place.true)

pub find-requires-clause-declared : goal.find-requires-clause-declared
find-requires-clause-declared c = search (arith, some_by_variable)

pub find-requires-clause-order : goal.find-requires-clause-order
find-requires-clause-order c =
    search (
      arith,
      get_or_default,
      (order_at c.args.new.now.f.now c.args.rows.now c.args.self.now c.requires.index c.args.place c.requires.place c.existentials.result.now c.index_mut.result.now c.every_formula_is_lawful.ensures.named c.existentials.ensures),
    )

pub returns-clause-index : goal.returns-clause-index
returns-clause-index c =
    let f = c.args.new.now.f.now in
    let orders = set c.self.inside.orders.items c.args.place c.find.new.self in
    subst (λ ls. IsRowIndex f c.args.rows.now (record { leaders = ls; orders = orders }))
    (sym (ap (λ (i : RowIndex). i.leaders) c.self.view_is))
    (order_set f c.args.rows.now c.args.self.now c.requires.index c.args.place c.requires.place
    c.existentials.result.now c.find.new.self orders c.every_formula_is_lawful.ensures.named
    c.existentials.ensures c.find.ensures.order (ap (λ os. set os c.args.place c.find.new.self)
    (ap (λ (i : RowIndex). i.orders) c.self.view_is)))

pub returns-clause-first : goal.returns-clause-first
returns-clause-first c =
    let f = c.args.new.now.f.now in
    let sees = sees_of (existential_of f (get_or c.existentials.result.now c.args.place 0)) in
    IfOk-weaker c.find.result (λ k. k ≡ position_or_len (λ r. same_bits (seen_by f sees c.args.new.now.row.now)
    (seen_by f sees r)) c.args.rows.now) (λ k. IsFirstRow f c.args.rows.now c.args.new.now.row.now c.args.place k)
    (λ k is. first_by_variable f c.args.rows.now c.args.new.now.row.now c.existentials.result.now c.args.place k
    c.every_formula_is_lawful.ensures.named c.existentials.ensures is) c.find.ensures.first
