use Rattle.definition_order.proofs.SortedExistentials.{AreSharedSoFar}
use Rattle.definition_order.proofs.shared_existentials.Given as goal

abbrev pub invariant-loop-place : goal.invariant-loop-place
invariant-loop-place l = AreSharedSoFar l.f l.ranks l.y l.places.items l.place
