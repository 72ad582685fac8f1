use Rattle.std.proofs.Common.{◌≡◌, length}
use Rattle.dq_text.specs.Line.{lines_from}
use Rattle.cert_text.specs.Scan.{blank_lines}
use Rattle.cert_text.proofs.reader.read_blank_lines.Given as goal

-- whether the lines from here on are blank is whether all are
abbrev pub invariant-loop-line : goal.invariant-loop-line
invariant-loop-line l = blank_lines (lines_from l.fn.lines.number l.fn.lines.rest) ≡ blank_lines
    (lines_from l.lines.number l.lines.rest)

abbrev pub decreases-loop-line : goal.decreases-loop-line
decreases-loop-line l = length l.lines.rest
