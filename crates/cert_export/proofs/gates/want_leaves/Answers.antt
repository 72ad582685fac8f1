use Rattle.cert_export.specs.Needed.{IsLeafWanted}
use Rattle.cert_export.proofs.NeededGates.{one_added, all_added, leaf_stays}
use Rattle.cert_export.proofs.gates.want_leaves.Goals as goal

pub loop-leaf-preserved : goal.loop-leaf-preserved
loop-leaf-preserved c =
    let entries = c.args.log.now.entries in
    one_added entries (IsLeafWanted entries) (leaf_stays entries) c.args.leaves.now c.args.pending.now
    c.loop-leaf.pending c.want_leaf.new.pending c.loop-leaf.leaf-index c.leaf-item.result c.loop-leaf-test.true
    c.leaf-item.is c.loop-leaf.invariant c.in_ok-want_leaf.ensures.grew c.in_ok-want_leaf.ensures.there

pub returns-clause-there : goal.returns-clause-there
returns-clause-there c =
    let entries = c.args.log.now.entries in
    all_added entries (IsLeafWanted entries) c.args.leaves.now c.args.pending.now c.loop-leaf.pending
    c.loop-leaf.leaf-index c.loop-leaf-test.false c.loop-leaf.invariant
