use Rattle.cert_text.specs.Items.{item_seen}
use Rattle.cert_text.proofs.KeptItems.{item_written}
use Rattle.cert_text.proofs.writer.write_items.Goals as goal

pub loop-k-preserved : goal.loop-k-preserved
loop-k-preserved c =
    item_written c.args.items.now c.loop-k.k (item_seen c.get.result) c.loop-k.text.items c.write_item.new.text.items _
    c.get.ensures c.in_ok-write_item.ensures c.loop-k.invariant
