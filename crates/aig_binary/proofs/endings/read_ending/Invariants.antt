use Rattle.std.proofs.Common.{◌≡◌, ◌+◌, ◌≤◌, length}
use Rattle.dq_text.specs.Line.{lines_from}
use Rattle.aiger_text.specs.ReaderState.{IsCircuitReader}
use Rattle.aig_binary.specs.Scan.{read_symbols}
use Rattle.aig_binary.proofs.endings.read_ending.Given as goal

abbrev pub invariant-loop-line : goal.invariant-loop-line
invariant-loop-line l = record {
  ready : IsCircuitReader l.reader;
  counted : l.lines.number + length l.lines.rest ≤ l.fn.lines.number + length l.fn.lines.rest;
  header : l.reader.header ≡ l.fn.reader.header;
  same : read_symbols l.fn.reader.header l.fn.reader.symbols (lines_from l.fn.lines.number l.fn.lines.rest)
      ≡ read_symbols l.fn.reader.header l.reader.symbols (lines_from l.lines.number l.lines.rest);
}

abbrev pub decreases-loop-line : goal.decreases-loop-line
decreases-loop-line l = length l.lines.rest
