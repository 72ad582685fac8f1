use Rattle.std.proofs.Common.{ap}
use Rattle.cert_text.specs.Items.{item_seen}
use Rattle.cert_text.specs.Steps.{step_seen}
use Rattle.lifted_proofs.specs.Carryings.{IsCarriedStep}
use Rattle.lifted_proofs.proofs.GatheredHints.{line-all}
use Rattle.lifted_proofs.proofs.carrying.Carrying.carry_item.Goals as goal

pub carry_line-requires-clause-small : goal.carry_line-requires-clause-small
carry_line-requires-clause-small c =
    line-all (IsCarriedStep c.args.self.now) (item_seen c.args.item) (step_seen c.in-Line.step) (ap item_seen c.in-Line.is)
    c.requires.small
