use Rattle.circuit_plain.proofs.NumberedGates.{NumberedSoFar}
use Rattle.circuit_plain.proofs.circuits.Circuit.places_behind_inputs.Given as goal

abbrev pub invariant-loop-place : goal.invariant-loop-place
invariant-loop-place l = NumberedSoFar l.self l.places.items l.place
