use Rattle.circuit_plain.proofs.NumberedGates.{GroundedSoFar}
use Rattle.circuit_plain.proofs.circuits.Circuit.gates_read_below.Given as goal

abbrev pub invariant-loop-place : goal.invariant-loop-place
invariant-loop-place l = GroundedSoFar l.self l.place
