use Rattle.proof_deletions.proofs.AllowedItems.{items_allowed, items_small, items_few, items_no_fewer}
use Rattle.proof_deletions.proofs.laws.deletions_are_allowed.Goals as goal

pub returns : goal.returns
returns c = record { items = items_allowed; small = items_small; few = items_few; no_fewer = items_no_fewer }
