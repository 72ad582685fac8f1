use Rattle.cert_stream.proofs.KeptBodies.{item_kept}
use Rattle.cert_stream.proofs.bodies.Body.take_item.Goals as goal

pub returns-clause-kept : goal.returns-clause-kept
returns-clause-kept c =
    item_kept c.args.f.now c.args.self.now c.take.new.self _ c.take.result c.requires.kept c.take.ensures.item
