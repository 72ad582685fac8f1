use Rattle.std.proofs.Common.{◌≡◌, take}
use Rattle.std.specs.List.{filter}
use Rattle.definability.specs.Copies.{is_copied_at}
use Rattle.definability.proofs.seeing.copied_places.Given as goal

abbrev pub invariant-loop-place : goal.invariant-loop-place
invariant-loop-place l = l.kept.items ≡ filter (is_copied_at l.flags) (take l.place-index l.places)
