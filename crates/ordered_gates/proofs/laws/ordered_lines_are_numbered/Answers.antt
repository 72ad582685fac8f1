use Rattle.ordered_gates.proofs.OrderedItems.{ordered_numbered}
use Rattle.ordered_gates.proofs.laws.ordered_lines_are_numbered.Goals as goal

pub returns : goal.returns
returns c = ordered_numbered
