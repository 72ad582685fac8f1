use Rattle.std.proofs.Common.{◌++◌, sym, ◌∙◌, subst, append_assoc}
use Rattle.dq_text.specs.Pieces.{tokens_to_come, last_line_to_come}
use Rattle.dqdimacs_reader.specs.Machine.{reading}
use Rattle.dqdimacs_reader.specs.Reading.{IsReading}
use Rattle.dqdimacs_reader.proofs.PiecesAnswer.{stays}
use Rattle.dqdimacs_reader.proofs.reader.ReaderFeed.feed.Goals as goal

pub returns-then-is_stopped-clause-stands : goal.returns-then-is_stopped-clause-stands
returns-then-is_stopped-clause-stands c text stands bytes answer may =
    let reader = c.args.self.now in
    let piece = c.args.piece.now in
    subst (λ t. IsReading (reading t) answer) (sym (append_assoc text piece bytes))
    (stands (piece ++ bytes) answer
    (stays reader.tokens (sym c.is_stopped.ensures ∙ c.if-is_stopped.true)
    (tokens_to_come reader.pieces bytes) (tokens_to_come reader.pieces (piece ++ bytes))
    (last_line_to_come reader.pieces bytes) (last_line_to_come reader.pieces (piece ++ bytes)) answer may))
