use Rattle.std.proofs.Common.{arith}
use Rattle.cert_text.proofs.SignWords.{word_and_rest}
use Rattle.cert_text.proofs.sign_words.behind_word.Goals as goal

pub returns : goal.returns
returns c = search (arith, word_and_rest)
