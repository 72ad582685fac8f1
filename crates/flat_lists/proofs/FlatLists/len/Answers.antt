use Rattle.std.proofs.Common.{arith}
use Rattle.flat_lists.proofs.Lists.{length-lists_at}
use Rattle.flat_lists.proofs.FlatLists.len.Goals as goal

pub returns : goal.returns
returns g c =
    let l = c.self.inside in
    rw (← c.self.view_is, length-lists_at 0 l.ends.items l.items.items) (omega (arith, c.len.ensures, l.ends.ok.0))
