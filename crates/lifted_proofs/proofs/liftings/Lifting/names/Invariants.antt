use Rattle.lifted_proofs.specs.Liftings.{AreFirstNamed}
use Rattle.lifted_proofs.proofs.liftings.Lifting.names.Given as goal

abbrev pub invariant-loop-j : goal.invariant-loop-j
invariant-loop-j l = AreFirstNamed l.self l.j l.named
