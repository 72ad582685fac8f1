use Rattle.std.proofs.Common.{refl, sym, ◌∙◌}
use Rattle.dq_text.specs.Summary.{summary_of}
use Rattle.dqdimacs_reader.proofs.PiecesAnswer.{summary_is}
use Rattle.dqdimacs_reader.proofs.token_reader.TokenReaderTakesTokens.token.Goals as goal

pub returns : goal.returns
returns c tokens last answer may =
    let told = c.summaries_tell_words_and_numbers.ensures in
    let is = summary_is (record { head = told.head; minus = told.minus; number = told.number }) c.args.text.now
    ∙ sym c.classify.ensures in
    c.take.ensures (record { summary = summary_of c.args.text.now; line = c.args.line }) tokens last answer is refl may
