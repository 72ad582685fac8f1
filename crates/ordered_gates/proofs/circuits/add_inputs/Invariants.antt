use Rattle.std.proofs.Common.{◌≡◌}
use Rattle.circuit_plain.proofs.NetlistParts.{with_inputs}
use Rattle.ordered_gates.proofs.circuits.add_inputs.Given as goal

abbrev pub invariant-loop-i : goal.invariant-loop-i
invariant-loop-i l = l.ordered ≡ with_inputs l.circuit l.i
