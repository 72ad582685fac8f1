use Rattle.defined_checker.proofs.AcceptedBlocks.{pair_is_free}
use Rattle.defined_checker.proofs.laws.accepted_pairs_are_free.Goals as goal

pub returns : goal.returns
returns c f p y is judged value alike forced = pair_is_free f p y is judged value alike forced
