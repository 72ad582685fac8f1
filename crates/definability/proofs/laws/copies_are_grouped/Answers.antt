use Rattle.definability.proofs.GroupedCopies.{grouped}
use Rattle.definability.proofs.laws.copies_are_grouped.Goals as goal

pub returns : goal.returns
returns c = grouped
