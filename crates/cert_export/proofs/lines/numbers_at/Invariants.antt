use Rattle.std.proofs.Common.{◌≡◌, map, take, slice_index}
use Rattle.cert_export.proofs.lines.numbers_at.Given as goal

abbrev pub invariant-loop-place : goal.invariant-loop-place
invariant-loop-place l = l.found.items ≡ map (slice_index l.numbers) (take l.place-index l.places)
