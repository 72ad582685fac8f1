-- How items are kept: a deletion as a step with id 0 whose hints are its ids.
use Rattle.std.specs.Prelude.{◌==◌, Bool, true, false, if◌then◌else◌}
use Rattle.dq_lits.specs.Derivation.{ProofStep}
use Rattle.rup_core.specs.Items.{ProofItem, derived, gone}

abbrev pub kept_item : ProofStep → ProofItem
kept_item step = if step.id == 0 then gone step.hints else derived step

abbrev pub is_deletion : ProofItem → Bool
is_deletion (derived _) = false
is_deletion (gone _) = true
