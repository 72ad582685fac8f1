use Rattle.std.proofs.Common.{◌≡◌, length, ap, arith}
use Rattle.flat_lists.proofs.Lists.{length-lists_at}
use Rattle.flat_lists.proofs.FlatLists.get.Goals as goal

pub list_at-requires-clause-within : goal.list_at-requires-clause-within
list_at-requires-clause-within g c =
    let l = c.self.inside in
    let size : length c.args.self.now ≡ length l.ends.items =
    rw (← c.self.view_is) (length-lists_at 0 l.ends.items l.items.items) in
    omega (arith, c.requires, size, ap length c.deref-ends.ensures.value)
