use Rattle.std.proofs.Common.{◌≡◌, map, take}
use Rattle.cert_export.specs.Written.{place_in}
use Rattle.cert_export.proofs.lines.places.Given as goal

abbrev pub invariant-loop-id : goal.invariant-loop-id
invariant-loop-id l = l.places.items ≡ map (place_in l.ids) (take l.id-index l.some)
