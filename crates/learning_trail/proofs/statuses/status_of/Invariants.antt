use Rattle.std.proofs.Common.{◌≡◌, take, Some}
use Rattle.dq_lits.specs.Derivation.{status_of}
use Rattle.learning_trail.specs.Steps.{literals_of}
use Rattle.learning_trail.specs.Extension.{seen}
use Rattle.learning_trail.proofs.statuses.status_of.Given as goal

abbrev pub invariant-loop-l : goal.invariant-loop-l
invariant-loop-l l = seen l.status ≡ status_of (literals_of l.trail.steps) (Some (take l.l-index l.lits))
