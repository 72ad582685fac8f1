use Rattle.std.proofs.Common.{get_or, length, reverse}
use Rattle.definition_export.proofs.ClosedPlaces.{IsClosing}
use Rattle.definition_export.proofs.needed.closed.Given as goal

abbrev pub invariant-loop-place : goal.invariant-loop-place
invariant-loop-place l = IsClosing l.log.entries l.terms l.fn.waiting l.waiting (reverse l.places.items)

abbrev pub decreases-loop-place : goal.decreases-loop-place
decreases-loop-place l = get_or (reverse l.places.items) 0 (length l.terms)
