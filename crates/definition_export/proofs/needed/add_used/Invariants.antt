use Rattle.std.proofs.Common.{take}
use Rattle.definition_export.proofs.ClosedPlaces.{AreUsedSoFar}
use Rattle.definition_export.proofs.needed.add_used.Given as goal

abbrev pub invariant-loop-id : goal.invariant-loop-id
invariant-loop-id l = AreUsedSoFar l.log.entries l.terms (take l.id-index l.ids) l.fn.waiting l.waiting
