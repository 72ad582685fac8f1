use Rattle.std.proofs.Common.{◌≡◌, ◌++◌, drop}
use Rattle.std.specs.List.{flat_map}
use Rattle.cert_text.specs.CanonicalDefinitions.{gate_text}
use Rattle.cert_text.proofs.definition_writer.write_gates.Given as goal

abbrev pub invariant-loop-gate : goal.invariant-loop-gate
invariant-loop-gate l = l.text.items ++ flat_map gate_text (drop l.gate-index l.gates)
    ≡ l.fn.text.items ++ flat_map gate_text l.gates
