use Rattle.std.proofs.Common.{sym, ◌∙◌, ap}
use Rattle.dq_text.specs.Line.{LineCursor, lines_from}
use Rattle.dq_text.proofs.TokenCuts.{not_empty}
use Rattle.dq_text.proofs.FirstLine.{first_of_lines}
use Rattle.dq_text.proofs.lines.Lines.next.Goals as goal

pub returns-clause-line : goal.returns-clause-line
returns-clause-line c =
    let rest = c.self.inside.rest.now in
    ap (λ (v : LineCursor). lines_from v.number v.rest) (sym c.self.view_is)
    ∙ first_of_lines c.self.inside.number rest c.cut_line.result.0.now c.cut_line.result.1.now c.cut_line.ensures.first
    (not_empty rest c.if-is_empty.ensures)
