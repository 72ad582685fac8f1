use Rattle.circuit_plain.proofs.EvaluationLaws.{GatesWritten}
use Rattle.circuit_plain.proofs.circuits.Circuit.write_gates.Given as goal

abbrev pub invariant-loop-place : goal.invariant-loop-place
invariant-loop-place l = GatesWritten l.self l.order l.initial.values l.values l.place-index
