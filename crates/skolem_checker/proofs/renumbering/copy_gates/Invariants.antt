use Rattle.std.proofs.Common.{◌≡◌, length}
use Rattle.skolem_checker.specs.Renaming.{renumbered_first}
use Rattle.skolem_checker.proofs.renumbering.copy_gates.Given as goal

abbrev pub invariant-loop-i : goal.invariant-loop-i
invariant-loop-i l = l.copy ≡ renumbered_first l.circuit (length l.circuit.inputs) l.i 0
