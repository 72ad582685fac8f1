use Rattle.definability.specs.Following.{HasMore}
use Rattle.definability.proofs.FollowedClauses.{AreCopiedTo}
use Rattle.definability.proofs.definability.Definability.copy_places.Given as goal

abbrev pub invariant-loop-place : goal.invariant-loop-place
invariant-loop-place g l = (g.O.Oracle.Fits l.oracle l.log) × HasMore l.f l.fn.self l.fn.log l.self l.log
    × AreCopiedTo l.from l.place l.self
