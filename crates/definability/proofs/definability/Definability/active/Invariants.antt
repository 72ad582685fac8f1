use Rattle.std.proofs.Common.{◌≡◌, ◌++◌, take}
use Rattle.definability.proofs.SelectedPlaces.{links_at}
use Rattle.definability.proofs.definability.Definability.active.Given as goal

abbrev pub invariant-loop-place : goal.invariant-loop-place
invariant-loop-place l = l.active.items ≡ (l.self.first.groups.items ++ l.self.second.groups.items) ++ links_at l.self
    (take l.place-index l.places)
