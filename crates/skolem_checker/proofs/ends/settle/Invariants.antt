use Rattle.std.proofs.Common.{◌≡◌, length}
use Rattle.skolem_checker.specs.Cones.{AreSettled}
use Rattle.skolem_checker.proofs.ends.settle.Given as goal

abbrev pub invariant-loop-p : goal.invariant-loop-p
invariant-loop-p l = record {
  same_length : length l.settled ≡ length l.fn.settled;
  settled : AreSettled l.tested.circuit.now l.tested.literals.now l.places l.tested.formula.now l.ys l.settled
      (length l.ys);
}
