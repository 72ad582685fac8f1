use Rattle.std.proofs.Common.{◌≡◌, ◌++◌, drop}
use Rattle.std.specs.List.{flat_map}
use Rattle.aiger_text.specs.Canonical.{input_text}
use Rattle.aiger_text.proofs.writer.write_inputs.Given as goal

abbrev pub invariant-loop-i : goal.invariant-loop-i
invariant-loop-i l = l.text.items ++ flat_map input_text (drop l.i l.circuit.inputs)
    ≡ l.fn.text.items ++ flat_map input_text l.circuit.inputs
