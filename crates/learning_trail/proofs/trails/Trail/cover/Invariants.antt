use Rattle.std.proofs.Common.{◌≡◌, ◌-◌}
use Rattle.learning_trail.proofs.trails.Trail.cover.Given as goal

abbrev pub invariant-loop-self : goal.invariant-loop-self
invariant-loop-self l = record {
  steps : l.self.steps ≡ l.fn.self.steps;
}

abbrev pub decreases-loop-self : goal.decreases-loop-self
decreases-loop-self l = l.variables - l.self.room
