use Rattle.std.proofs.Common.{arith}
use Rattle.skolem_checker.proofs.LeastNumbers.{known_length, few_known}
use Rattle.skolem_checker.proofs.renumbering.renumbered_by_place.Goals as goal

pub new-copy-requires : goal.new-copy-requires
new-copy-requires c = search (arith, known_length, few_known)
