use Rattle.std.proofs.Common.{take}
use Rattle.candidate_functions.proofs.SettledDefinitions.{AreSettledSoFar}
use Rattle.candidate_functions.proofs.definitions.put_definitions.Given as goal

abbrev pub invariant-loop-at : goal.invariant-loop-at
invariant-loop-at l = AreSettledSoFar l.f l.ranks l.definitions l.fn.graph l.graph l.fn.nodes.items l.nodes.items
    (take l.at l.order.items)
