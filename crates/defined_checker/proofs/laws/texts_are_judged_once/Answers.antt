use Rattle.defined_checker.proofs.RightTexts.{checked_once}
use Rattle.defined_checker.proofs.laws.texts_are_judged_once.Goals as goal

pub returns : goal.returns
returns c f text first a b p q some more = checked_once f text first a b p q some more
