use Rattle.std.proofs.Common.{slice_index, arith}
use Rattle.std.proofs.lemmas.List.{get_or_default}
use Rattle.cert_export.proofs.FaultLeaves.{one_leaf_more, all_leaves}
use Rattle.cert_export.proofs.leaves.fault_leaves.Goals as goal

pub loop-id-preserved : goal.loop-id-preserved
loop-id-preserved c =
    let ids = c.args.ids.now in
    let i = c.loop-id.id-index in
    one_leaf_more c.args.f.now c.args.log.now.entries ids c.loop-id.leaves c.note_leaf.new.leaves i
    (slice_index ids i) c.loop-id-test.true
    (get_or_default ids i 0 (slice_index ids i) c.loop-id-test.true) c.loop-id.invariant c.in_ok-note_leaf.ensures.kept
    c.in_ok-note_leaf.ensures.there c.in_ok-note_leaf.ensures.only

pub returns-clause-whole : goal.returns-clause-whole
returns-clause-whole c = search (arith, all_leaves)
