use Rattle.learning_trail.specs.Steps.{literals_of}
use Rattle.cdcl_core.proofs.NextOthers.{AreFalseBetween}
use Rattle.cdcl_core.proofs.propagation.next_other.Given as goal

abbrev pub invariant-loop-place : goal.invariant-loop-place
invariant-loop-place l = AreFalseBetween (literals_of l.trail.steps) l.lits l.other l.from l.place
