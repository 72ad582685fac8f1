use Rattle.std.proofs.Common.{sym}
use Rattle.flat_lists.proofs.Lists.{get_or-lists_at}
use Rattle.flat_lists.proofs.list_at.Goals as goal

pub returns : goal.returns
returns g c = rw c.start_of-start.ensures (sym (get_or-lists_at 0 c.args.ends.now c.args.items.now c.args.place
    c.requires.within))
