use Rattle.circuit_plain.proofs.BlockLaws.{LanesWritten}
use Rattle.circuit_plain.proofs.circuits.Circuit.write_gate_lanes.Given as goal

abbrev pub invariant-loop-place : goal.invariant-loop-place
invariant-loop-place l = LanesWritten l.self l.order l.initial.values l.values l.place-index
