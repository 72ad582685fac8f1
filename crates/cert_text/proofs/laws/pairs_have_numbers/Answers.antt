use Rattle.cert_text.proofs.PairNumbers.{is_pair, pair_is}
use Rattle.cert_text.proofs.laws.pairs_have_numbers.Goals as goal

pub returns : goal.returns
returns c f rows number lawful = (pair_is f rows number, is_pair f rows number lawful)
