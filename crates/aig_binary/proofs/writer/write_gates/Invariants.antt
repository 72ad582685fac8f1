use Rattle.std.proofs.Common.{◌≡◌, ◌++◌, drop}
use Rattle.std.specs.List.{flat_map}
use Rattle.aig_binary.specs.Written.{gate_code}
use Rattle.aig_binary.proofs.writer.write_gates.Given as goal

abbrev pub invariant-loop-i : goal.invariant-loop-i
invariant-loop-i l = l.text.items ++ flat_map gate_code (drop l.i l.circuit.gates)
    ≡ l.fn.text.items ++ flat_map gate_code l.circuit.gates
