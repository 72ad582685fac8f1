use Rattle.std.proofs.Common.{w64, refl, sym, ◌∙◌, ap}
use Rattle.std.proofs.lemmas.Int.{to_z-of_z}
use Rattle.dq_text.specs.Summary.{summary_of}
use Rattle.dqdimacs_reader.specs.Lexeme.{lexeme_of_int}
use Rattle.dqdimacs_reader.proofs.NumberWords.{int_word}
use Rattle.dqdimacs_reader.proofs.PiecesAnswer.{summary_is}
use Rattle.dqdimacs_reader.proofs.token_reader.TokenReaderTakesTokens.number.Goals as goal

pub returns : goal.returns
returns c text tokens last answer number may =
    let told = c.summaries_tell_words_and_numbers.ensures in
    let is = summary_is (record { head = told.head; minus = told.minus; number = told.number }) text
    ∙ int_word text c.args.number number
    ∙ ap lexeme_of_int (sym (to_z-of_z w64 c.args.number c.ranges.number))
    ∙ sym c.number_lexeme.ensures in
    c.take.ensures (record { summary = summary_of text; line = c.args.line }) tokens last answer is refl may
