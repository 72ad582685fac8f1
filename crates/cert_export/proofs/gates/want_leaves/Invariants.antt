use Rattle.cert_export.specs.Needed.{IsLeafWanted}
use Rattle.cert_export.proofs.NeededGates.{AddedSoFar}
use Rattle.cert_export.proofs.gates.want_leaves.Given as goal

abbrev pub invariant-loop-leaf : goal.invariant-loop-leaf
invariant-loop-leaf l =
    AddedSoFar l.log.entries (IsLeafWanted l.log.entries) l.leaves l.initial.pending l.pending l.leaf-index
