use Rattle.std.proofs.Common.{arith, length-append}
use Rattle.learning_trail.proofs.KeptTrails.{kept_grown}
use Rattle.learning_trail.proofs.PlacedSteps.{placed_grown}
use Rattle.learning_trail.proofs.trails.Trail.grow.Goals as goal

pub invariant_of-self-2 : goal.invariant_of-self-2
invariant_of-self-2 c = search (arith, kept_grown, placed_grown, length-append)
