use Rattle.std.proofs.Common.{arith}
use Rattle.cert_text.specs.Items.{item_seen}
use Rattle.ordered_gates.proofs.OrderedLists.{line_id, item_added}
use Rattle.ordered_gates.proofs.items.ordered_items.Goals as goal

pub push_ordered-requires : goal.push_ordered-requires
push_ordered-requires c = search (arith, line_id)

pub loop-place-preserved : goal.loop-place-preserved
loop-place-preserved c =
    item_added c.args.circuit.now.gates c.args.items.now c.loop-place.written c.push_ordered.new.written
    c.loop-place.place (item_seen c.get.result)
    (omega (arith, c.loop-place-test.true, c.len-place-end.ensures.value)) c.get.ensures c.loop-place.invariant
    c.in_ok-push_ordered.ensures
