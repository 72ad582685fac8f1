use Rattle.std.proofs.Common.{◌≡◌, length, true}
use Rattle.dq_lits.specs.Derivation.{holds}
use Rattle.learning_trail.specs.Steps.{literals_of, Shrunk}
use Rattle.learning_trail.proofs.answers.back_to.Given as goal

abbrev pub invariant-loop-step : goal.invariant-loop-step
invariant-loop-step l = record {
  room : l.trail.room ≡ l.fn.trail.room;
  shrunk : Shrunk l.fn.trail.steps l.trail.steps;
  still : holds (literals_of l.trail.steps) l.l ≡ true;
}

abbrev pub decreases-loop-step : goal.decreases-loop-step
decreases-loop-step l = length l.trail.steps
