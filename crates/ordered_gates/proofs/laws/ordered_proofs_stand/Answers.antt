use Rattle.ordered_gates.proofs.OrderedFiles.{proved}
use Rattle.ordered_gates.proofs.OrderedItems.{ordered_allowed}
use Rattle.ordered_gates.proofs.laws.ordered_proofs_stand.Goals as goal

pub returns : goal.returns
returns c f file proof is allowed = (proved f file proof is allowed, ordered_allowed f file.circuit proof allowed)
