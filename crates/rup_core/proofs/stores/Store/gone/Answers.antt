use Rattle.std.proofs.Common.{◌-◌, sym, ◌∙◌, arith}
use Rattle.rup_core.proofs.StoredLines.{before_first, fewer_stored, stored_gone, stored_stays, has_some, has_none}
use Rattle.rup_core.proofs.stores.Store.gone.Goals as goal

pub returns-then-id-self : goal.returns-then-id-self
returns-then-id-self c = before_first c.args.self.now c.self.inside.first c.self.inside.pages.items c.args.id
    c.self.view_is c.if-id-self.true

pub returns-then-has_clause : goal.returns-then-has_clause
returns-then-has_clause c =
    stored_gone c.args.self.now c.self.inside.first c.self.inside.pages.items c.remove_at.new.pages.items c.args.id
    c.self.view_is c.if-id-self.false c.remove_at.ensures.sets c.remove_at.ensures.as_many

pub returns-else-has_clause : goal.returns-else-has_clause
returns-else-has_clause c =
    stored_stays c.args.self.now c.self.inside.first c.self.inside.pages.items c.args.id c.self.view_is
    c.if-id-self.false
    (has_none c.self.inside.pages.items c.deref.result.now (c.args.id - c.self.inside.first) c.deref.ensures.value
    (sym c.has_clause.ensures ∙ c.if-has_clause.false))

pub overflow_sub-self : goal.overflow_sub-self
overflow_sub-self c =
    let some = has_some c.self.inside.pages.items c.deref.result.now
    (c.args.id - c.self.inside.first) c.deref.ensures.value (sym c.has_clause.ensures ∙ c.if-has_clause.true) in
    let fewer = fewer_stored c.self.inside.first c.self.inside.pages.items c.remove_at.new.pages.items
    (c.args.id - c.self.inside.first) c.remove_at.ensures.sets some c.remove_at.ensures.as_many in
    let count = c.self.invariant.counted in
    omega (arith, fewer, count)

pub invariant_of-self : goal.invariant_of-self
invariant_of-self c =
    let some = has_some c.self.inside.pages.items c.deref.result.now
    (c.args.id - c.self.inside.first) c.deref.ensures.value (sym c.has_clause.ensures ∙ c.if-has_clause.true) in
    let fewer = fewer_stored c.self.inside.first c.self.inside.pages.items c.remove_at.new.pages.items
    (c.args.id - c.self.inside.first) c.remove_at.ensures.sets some c.remove_at.ensures.as_many in
    let count = c.self.invariant.counted in
    record { from_one = c.self.invariant.from_one; counted = omega (arith, fewer, count) }
