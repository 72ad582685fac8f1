use Rattle.cert_export.proofs.MatrixIds.{LengthsSoFar}
use Rattle.cert_export.proofs.negated.lengths_before.Given as goal

abbrev pub invariant-loop-j : goal.invariant-loop-j
invariant-loop-j l = LengthsSoFar l.f.matrix l.before.items l.literals l.j
