use Rattle.std.proofs.Common.{◌≡◌, map, slice_index, take}
use Rattle.definition_export.proofs.needed.listed.Given as goal

abbrev pub invariant-loop-place : goal.invariant-loop-place
invariant-loop-place l = l.gates ≡ map (slice_index l.terms) (take l.place-index l.places)
