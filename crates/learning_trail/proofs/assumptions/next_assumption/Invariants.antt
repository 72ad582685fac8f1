use Rattle.std.proofs.Common.{◌-◌, length, take}
use Rattle.learning_trail.specs.Sound.{AreTrue}
use Rattle.learning_trail.specs.Steps.{literals_of}
use Rattle.learning_trail.proofs.assumptions.next_assumption.Given as goal

abbrev pub invariant-loop-l : goal.invariant-loop-l
invariant-loop-l l = AreTrue (take l.made l.assumptions) (literals_of l.trail.steps)

abbrev pub decreases-loop-l : goal.decreases-loop-l
decreases-loop-l l = length l.assumptions - l.made
