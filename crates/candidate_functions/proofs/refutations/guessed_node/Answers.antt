use Rattle.std.proofs.Common.{arith}
use Rattle.candidate_functions.proofs.TreeNodes.{guess_is_node}
use Rattle.candidate_functions.proofs.refutations.guessed_node.Goals as goal

pub returns-in-Some : goal.returns-in-Some
returns-in-Some c = search (arith, guess_is_node)
