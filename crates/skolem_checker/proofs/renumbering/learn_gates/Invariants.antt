use Rattle.std.proofs.Common.{◌≡◌, ◌+◌, length, take}
use Rattle.skolem_checker.specs.Renaming.{known_variables}
use Rattle.skolem_checker.proofs.renumbering.learn_gates.Given as goal

abbrev pub invariant-loop-i : goal.invariant-loop-i
invariant-loop-i l = l.known ≡ take (length l.circuit.inputs + l.i + 1) (known_variables l.circuit)
