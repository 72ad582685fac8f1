use Rattle.std.proofs.Common.{◌≡◌, ◌+◌, ◌-◌, ◌≤◌, [], length}
use Rattle.aiger_text.specs.ReaderState.{IsCircuitReader}
use Rattle.aig_binary.specs.Scan.{read_outputs}
use Rattle.aig_binary.proofs.outputs.take_outputs.Given as goal

abbrev pub invariant-loop-i : goal.invariant-loop-i
invariant-loop-i l = record {
  ready : IsCircuitReader l.reader;
  header_line : l.reader.header_line ≡ l.initial.reader.header_line;
  header : l.reader.header ≡ l.initial.reader.header;
  no_inputs : l.reader.circuit.inputs ≡ [];
  no_gates : l.reader.circuit.gates ≡ [];
  counted : length l.reader.circuit.outputs ≡ l.i;
  number : l.lines.number ≡ l.initial.lines.number + l.i;
  shorter : length l.lines.rest ≤ length l.initial.lines.rest;
  same : read_outputs l.outputs l.initial.reader.circuit l.initial.lines.number l.initial.lines.rest
      ≡ read_outputs (l.outputs - l.i) l.reader.circuit l.lines.number l.lines.rest;
}
