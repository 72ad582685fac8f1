use Rattle.std.proofs.Common.{subst}
use Rattle.std.specs.List.{All}
use Rattle.cert_export.specs.Needed.{IsLeafWanted}
use Rattle.cert_export.proofs.NeededGates.{roots_added}
use Rattle.cert_export.proofs.gates.roots.Goals as goal

pub returns : goal.returns
returns c =
    let entries = c.args.log.now.entries in
    roots_added entries c.args.ids.now c.args.leaves.now.leaves c.new-pending.result c.want_leaves.new.pending
    c.want_ids.new.pending c.new-pending.ensures c.in_ok-want_leaves.ensures.grew
    (subst (All (IsLeafWanted entries c.want_leaves.new.pending)) c.items.ensures c.in_ok-want_leaves.ensures.there)
    c.in_ok-want_ids.ensures.grew c.in_ok-want_ids.ensures.there
