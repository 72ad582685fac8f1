use Rattle.ordered_gates.proofs.OrderedFiles.{sorted_in_order, binary}
use Rattle.ordered_gates.proofs.laws.ordered_files_are_binary.Goals as goal

pub returns : goal.returns
returns c = record { in_order = sorted_in_order; binary = binary }
