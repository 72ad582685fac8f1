-- Items as the definitions see them.
use Rattle.std.specs.Prelude.{◌≤◌}
use Rattle.rup_core.specs.Items.{ProofItem, derived, gone}
use Rattle.cert_text.specs.Steps.{step_seen}
use Rattle.cert_text.specs.declared.items.Item.{Item}
use Rattle.cert_text.specs.declared.items.Item.TheVariants.{Line, Gone}

abbrev pub item_seen : Item → ProofItem
item_seen (Line step) = derived (step_seen step)
item_seen (Gone ids) = gone ids.now

-- a line's id isn't 0
abbrev pub HasLineId : ProofItem → Type 0
HasLineId (derived step) = 1 ≤ step.id
HasLineId (gone ids) = Unit {0}
