use Rattle.std.proofs.Common.{◌≤◌, ◌++◌, length, refl, arith, length-append}
use Rattle.flat_lists.proofs.Lists.{lists_at-push, AreEnds-push}
use Rattle.flat_lists.proofs.FlatLists.push.Goals as goal

pub invariant_of-self-2 : goal.invariant_of-self-2
invariant_of-self-2 g c =
    let l = c.self.inside in
    let items = c.in_ok-append.ensures.items in
    let more : length l.items.items ≤ length c.append.new.items.items =
    rw items (omega (arith, length-append l.items.items c.args.list.now)) in
    rw c.in_ok-append.ensures.end (AreEnds-push 0 l.ends.items (length l.items.items)
    (length c.append.new.items.items) more c.self.invariant)

pub returns-clause-ok : goal.returns-clause-ok
returns-clause-ok g c =
    let l = c.self.inside in
    let items = c.in_ok-append.ensures.items in
    rw (c.in_ok-append.ensures.end, ← c.self.view_is, items)
    (lists_at-push 0 l.ends.items l.items.items c.args.list.now
    (length (l.items.items ++ c.args.list.now)) refl c.self.invariant)
