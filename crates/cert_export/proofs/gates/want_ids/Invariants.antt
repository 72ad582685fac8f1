use Rattle.cert_export.specs.Needed.{IsIdWanted}
use Rattle.cert_export.proofs.NeededGates.{AddedSoFar}
use Rattle.cert_export.proofs.gates.want_ids.Given as goal

abbrev pub invariant-loop-id : goal.invariant-loop-id
invariant-loop-id l =
    AddedSoFar l.log.entries (IsIdWanted l.log.entries) l.ids l.initial.pending l.pending l.id-index
