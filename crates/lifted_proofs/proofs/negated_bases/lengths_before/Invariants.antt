use Rattle.lifted_proofs.proofs.NegatedBases.{LengthsSoFar}
use Rattle.lifted_proofs.proofs.negated_bases.lengths_before.Given as goal

abbrev pub invariant-loop-j : goal.invariant-loop-j
invariant-loop-j l = LengthsSoFar l.f.matrix l.before.items l.literals l.j
