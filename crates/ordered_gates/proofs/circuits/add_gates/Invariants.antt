use Rattle.std.proofs.Common.{◌≡◌}
use Rattle.ordered_gates.specs.Circuits.{ordered_netlist}
use Rattle.circuit_plain.proofs.NetlistParts.{with_gates}
use Rattle.ordered_gates.proofs.circuits.add_gates.Given as goal

abbrev pub invariant-loop-i : goal.invariant-loop-i
invariant-loop-i l = l.ordered ≡ with_gates (ordered_netlist l.circuit) l.i
