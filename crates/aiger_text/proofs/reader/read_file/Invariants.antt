use Rattle.std.proofs.Common.{◌≡◌, ◌++◌, List, length}
use Rattle.dq_text.specs.Line.{TextLine, lines_from}
use Rattle.aiger_text.specs.ReaderState.{body_of, IsCircuitReader}
use Rattle.aiger_text.specs.Scan.{scan, read_body}
use Rattle.aiger_text.proofs.reader.read_file.Given as goal

abbrev pub invariant-loop-line : goal.invariant-loop-line
invariant-loop-line l = record {
  before : List TextLine;
  so_far : lines_from l.first l.bytes ≡ before ++ lines_from l.lines.number l.lines.rest;
  ready : IsCircuitReader l.reader;
  line : l.reader.header_line ≡ l.first;
  same : scan l.bytes l.first ≡ read_body (body_of l.reader) (lines_from l.lines.number l.lines.rest) l.lines.number;
}

abbrev pub decreases-loop-line : goal.decreases-loop-line
decreases-loop-line l = length l.lines.rest
