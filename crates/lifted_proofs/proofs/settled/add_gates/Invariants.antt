use Rattle.std.proofs.Common.{◌≡◌}
use Rattle.circuit_plain.proofs.NetlistParts.{with_gates}
use Rattle.lifted_proofs.proofs.settled.add_gates.Given as goal

abbrev pub invariant-loop-i : goal.invariant-loop-i
invariant-loop-i l = l.settled ≡ with_gates l.circuit l.i
