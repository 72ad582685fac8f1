use Rattle.std.proofs.Common.{◌≡◌, ◌-◌, ◌<◌, take, length, arith, ap, ◌∙◌}
use Rattle.flat_lists.proofs.Lists.{popped}
use Rattle.flat_lists.proofs.FlatLists.pop.Goals as goal

pub invariant_of-self : goal.invariant_of-self
invariant_of-self g c =
    let l = c.self.inside in
    let rest : c.len-rest.result - 1 ≡ length l.ends.items - 1 = omega (arith, c.len-rest.ensures, l.ends.ok.0) in
    let some : 0 < length l.ends.items = grind (arith, c.if-is_empty.ensures, l.ends.ok.0) in
    (popped l.ends.items c.truncate-2.new.self.items c.deref.result.now l.items.items c.truncate.new.self.items
    (c.len-rest.result - 1) c.start_of-start.result rest some c.deref.ensures.value c.start_of-start.ensures
    c.truncate.ensures.items c.truncate-2.ensures.items c.self.invariant).0

pub returns : goal.returns
returns g c =
    let l = c.self.inside in
    let rest : c.len-rest.result - 1 ≡ length l.ends.items - 1 = omega (arith, c.len-rest.ensures, l.ends.ok.0) in
    let some : 0 < length l.ends.items = grind (arith, c.if-is_empty.ensures, l.ends.ok.0) in
    (popped l.ends.items c.truncate-2.new.self.items c.deref.result.now l.items.items c.truncate.new.self.items
    (c.len-rest.result - 1) c.start_of-start.result rest some c.deref.ensures.value c.start_of-start.ensures
    c.truncate.ensures.items c.truncate-2.ensures.items c.self.invariant).1 ∙ ap
    (λ ls. take (length ls - 1) ls) c.self.view_is
