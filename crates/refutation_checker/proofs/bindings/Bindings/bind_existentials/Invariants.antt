use Rattle.refutation_checker.proofs.BoundVariables.{AreBoundSoFar}
use Rattle.refutation_checker.proofs.bindings.Bindings.bind_existentials.Given as goal

abbrev pub invariant-loop-place : goal.invariant-loop-place
invariant-loop-place l = AreBoundSoFar l.f l.self.sets.items l.self.of.items l.place
