use Rattle.std.proofs.Common.{subst}
use Rattle.dq_text.specs.Pieces.{tokens_to_come, last_line_to_come, no_pieces}
use Rattle.dqdimacs_reader.specs.Progress.{may_answer}
use Rattle.dqdimacs_reader.specs.Reading.{IsReading}
use Rattle.dqdimacs_reader.proofs.PiecesAnswer.{whole_is_read}
use Rattle.dqdimacs_reader.proofs.reader.Reader.new.Goals as goal

pub returns : goal.returns
returns c bytes answer may =
    let told = c.summaries_tell_words_and_numbers.ensures in
    let pieced = c.pieces_have_the_tokens.ensures in
    let begun = subst (λ p. may_answer c.new-2.result (tokens_to_come p bytes) (last_line_to_come p bytes) answer)
    c.new.ensures may in
    let from_start = subst (λ s. may_answer s (tokens_to_come no_pieces bytes)
    (last_line_to_come no_pieces bytes) answer) c.new-2.ensures begun in
    subst (λ r. IsReading r answer)
    (whole_is_read (record { head = told.head; minus = told.minus; number = told.number }) bytes
    (tokens_to_come no_pieces bytes) (last_line_to_come no_pieces bytes) (pieced.tokens bytes)
    (pieced.last_line bytes))
    from_start
