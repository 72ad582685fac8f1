use Rattle.circuit_plain.proofs.EvaluationLaws.{InputsWritten}
use Rattle.circuit_plain.proofs.circuits.Circuit.write_inputs.Given as goal

abbrev pub invariant-loop-place : goal.invariant-loop-place
invariant-loop-place l = InputsWritten l.self l.row l.values l.place
