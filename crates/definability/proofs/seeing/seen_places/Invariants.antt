use Rattle.definability.specs.Seeing.{ArePlacesSoFar}
use Rattle.definability.proofs.seeing.seen_places.Given as goal

abbrev pub invariant-loop-x : goal.invariant-loop-x
invariant-loop-x l = ArePlacesSoFar l.f.universals l.x-items l.x-index l.places.items
