use Rattle.std.proofs.Common.{◌≡◌, ◌++◌, take}
use Rattle.circuit_plain.specs.Netlist.{gate_variables}
use Rattle.pec_front.proofs.wires.variables_of.Given as goal

abbrev pub invariant-loop-i : goal.invariant-loop-i
invariant-loop-i l = l.variables ≡ l.circuit.inputs ++ take l.i (gate_variables l.circuit)
