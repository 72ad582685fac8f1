use Rattle.std.proofs.Common.{◌≡◌, ℕ, ◌<◌, not, false}
use Rattle.circuit_plain.specs.Netlist.{gate_at}
use Rattle.aiger_text.specs.Scan.{reads_defined}
use Rattle.aiger_text.proofs.undefined.undefined_gate.Given as goal

abbrev pub invariant-loop-i : goal.invariant-loop-i
invariant-loop-i l = (k : ℕ) → k < l.i → not (reads_defined l.reader.circuit (gate_at l.reader.circuit k)) ≡ false
