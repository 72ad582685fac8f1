use Rattle.cert_export.proofs.ListedGates.{AreVariablesSoFar}
use Rattle.cert_export.proofs.gates.variables_at.Given as goal

abbrev pub invariant-loop-place : goal.invariant-loop-place
invariant-loop-place l = AreVariablesSoFar l.log.entries l.places l.variables l.place-index
