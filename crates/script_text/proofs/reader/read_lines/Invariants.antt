use Rattle.std.proofs.Common.{◌≡◌, length}
use Rattle.dq_text.specs.Line.{lines_from}
use Rattle.script_text.specs.Reading.{read_lines, start}
use Rattle.script_text.specs.Steps.{IsCounted, state_of}
use Rattle.script_text.proofs.reader.read_lines.Given as goal

-- what all lines give is what the lines from here on give behind the commands so far
abbrev pub invariant-loop-line : goal.invariant-loop-line
invariant-loop-line l = record {
  same : read_lines l.f (start l.f) (lines_from 1 l.text)
      ≡ read_lines l.f (state_of l.reader) (lines_from l.lines.number l.lines.rest);
  counted : IsCounted l.reader;
}

abbrev pub decreases-loop-line : goal.decreases-loop-line
decreases-loop-line l = length l.lines.rest
