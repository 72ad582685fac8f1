use Rattle.dq_text.specs.Line.{line_tokens}
use Rattle.cert_text.specs.SignsTaken.{SignsTaken}
use Rattle.cert_text.proofs.row_lines.take_signs.Given as goal

abbrev pub invariant-loop-i : goal.invariant-loop-i
invariant-loop-i l = SignsTaken l.universals.variables.now (line_tokens l.signs) (line_tokens l.rest) l.row l.i
