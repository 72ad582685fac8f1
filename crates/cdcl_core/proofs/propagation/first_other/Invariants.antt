use Rattle.std.proofs.Common.{take}
use Rattle.learning_trail.specs.Steps.{literals_of}
use Rattle.cdcl_core.specs.Visits.{AreOthersFalse}
use Rattle.cdcl_core.proofs.propagation.first_other.Given as goal

abbrev pub invariant-loop-l : goal.invariant-loop-l
invariant-loop-l l = AreOthersFalse (literals_of l.trail.steps) (take l.l-index l.lits) l.other
