use Rattle.std.proofs.Common.{length, get_or, reverse}
use Rattle.hint_log.specs.Entries.{names_of}
use Rattle.cert_export.proofs.GatePlaces.{AreLookedAt}
use Rattle.cert_export.proofs.gates.gate_places.Given as goal

abbrev pub invariant-loop-place : goal.invariant-loop-place
invariant-loop-place l = AreLookedAt l.log.entries l.fn.roots l.pending l.places.items

abbrev pub decreases-loop-place : goal.decreases-loop-place
decreases-loop-place l = get_or (reverse l.places.items) 0 (length (names_of l.log.entries))
