use Rattle.std.proofs.Common.{take}
use Rattle.expansion.specs.Table.{point_bits}
use Rattle.candidate_functions.specs.Pairs.{has_bit}
use Rattle.candidate_functions.proofs.PatchedNodes.{AtPairSoFar}
use Rattle.candidate_functions.proofs.patches.at_pair.Given as goal

abbrev pub invariant-loop-pair : goal.invariant-loop-pair
invariant-loop-pair l = AtPairSoFar l.fn.graph l.graph (has_bit l.bit (point_bits l.points) l.y)
    (take l.pair-index l.pairs) l.made
