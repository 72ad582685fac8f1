use Rattle.std.proofs.Common.{◌≡◌, length}
use Rattle.skolem_checker.specs.Cones.{IsCone, AreAlone}
use Rattle.skolem_checker.proofs.cones.are_walked.Given as goal

abbrev pub invariant-loop-i : goal.invariant-loop-i
invariant-loop-i l = record {
  same_length : length l.slots ≡ length l.fn.slots;
  cone : IsCone l.tested.formula.now l.tested.circuit.now l.tested.literals.now l.slots l.cone;
  alone : AreAlone l.tested.circuit.now l.tested.literals.now l.places l.tested.formula.now l.ys l.settled l.i;
}
