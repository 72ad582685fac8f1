use Rattle.std.proofs.Common.{◌≡◌, map}
use Rattle.std.specs.List.{range_with_len}
use Rattle.definition_order.specs.Sizes.{sized_place}
use Rattle.definition_order.proofs.sizes.sized_places.Given as goal

abbrev pub invariant-loop-place : goal.invariant-loop-place
invariant-loop-place l = l.sized.items ≡ map (sized_place l.f l.ranks) (range_with_len 0 l.place)
