-- A line as the definitions see it.
use Rattle.std.specs.Prelude.{ℕ, List}
use Rattle.dq_text.specs.Line.{TextLine}
use Rattle.dq_text.specs.declared.lines.Line.{Line}

abbrev pub text_line : Line → List ℕ → TextLine
text_line l behind = record { text = l.text.now; number = l.number; behind = behind }
