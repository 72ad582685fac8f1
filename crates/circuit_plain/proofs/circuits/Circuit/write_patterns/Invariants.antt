use Rattle.circuit_plain.proofs.BlockLaws.{PatternsWritten}
use Rattle.circuit_plain.proofs.circuits.Circuit.write_patterns.Given as goal

abbrev pub invariant-loop-i : goal.invariant-loop-i
invariant-loop-i l = PatternsWritten l.self l.places l.first l.initial.values l.values l.i
