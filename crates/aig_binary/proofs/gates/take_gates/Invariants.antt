use Rattle.std.proofs.Common.{◌≡◌, ◌+◌, ◌-◌, ◌≤◌, [], length}
use Rattle.aig_binary.specs.BareReading.{AreNumbered}
use Rattle.aig_binary.specs.Gates.{read_gates}
use Rattle.aig_binary.proofs.gates.take_gates.Given as goal

abbrev pub invariant-loop-i : goal.invariant-loop-i
invariant-loop-i l = record {
  max_var : l.circuit.max_var ≡ l.initial.circuit.max_var;
  no_inputs : l.circuit.inputs ≡ [];
  numbered : AreNumbered (l.header.inputs + 1) l.circuit.gates;
  counted : length l.circuit.gates ≡ l.i;
  shorter : length l.deltas ≤ length l.initial.deltas;
  same : read_gates l.header.gates (l.header.inputs + 1) l.initial.circuit l.initial.deltas
      ≡ read_gates (l.header.gates - l.i) (l.header.inputs + 1 + l.i) l.circuit l.deltas;
}
