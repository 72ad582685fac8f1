use Rattle.std.proofs.Common.{sym, ◌∙◌}
use Rattle.rup_core.specs.Items.{derived, gone}
use Rattle.cert_text.specs.Steps.{step_seen}
use Rattle.cert_text.proofs.KeptItems.{deletion_at}
use Rattle.cert_text.proofs.items.ItemList.deletes.Goals as goal

pub returns-in-Gone : goal.returns-in-Gone
returns-in-Gone c = sym (c.loop-k.invariant ∙ deletion_at c.args.self.now c.loop-k.k
    (gone c.in-Gone.field-0.now) c.in-Gone.ensures)

pub loop-k-preserved : goal.loop-k-preserved
loop-k-preserved c = c.loop-k.invariant ∙ deletion_at c.args.self.now c.loop-k.k
    (derived (step_seen c.in_default.field-0)) c.in_default.ensures
