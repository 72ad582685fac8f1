use Rattle.cert_export.proofs.FaultLeaves.{LeavesSoFar}
use Rattle.cert_export.proofs.leaves.fault_leaves.Given as goal

abbrev pub invariant-loop-id : goal.invariant-loop-id
invariant-loop-id l = LeavesSoFar l.f l.log.entries l.ids l.leaves l.id-index
