use Rattle.std.proofs.Common.{◌≡◌, reverse}
use Rattle.lifted_proofs.specs.KeptPlaces.{places_of}
use Rattle.lifted_proofs.proofs.kept_places.places.Given as goal

abbrev pub invariant-loop-place : goal.invariant-loop-place
invariant-loop-place l =
    l.places.items ≡ places_of l.table.formula.now (reverse l.table.units.now) l.kept l.place
