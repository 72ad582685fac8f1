use Rattle.std.proofs.Common.{◌≡◌, ◌++◌, drop}
use Rattle.std.specs.List.{flat_map}
use Rattle.aiger_text.specs.Canonical.{gate_text}
use Rattle.aiger_text.proofs.writer.write_gates.Given as goal

abbrev pub invariant-loop-i : goal.invariant-loop-i
invariant-loop-i l = l.text.items ++ flat_map gate_text (drop l.i l.circuit.gates)
    ≡ l.fn.text.items ++ flat_map gate_text l.circuit.gates
