use Rattle.headline.proofs.Xors.{both_are_false, one_is_true}
use Rattle.headline.proofs.xors_are_odd.Goals as goal

pub returns-clause-one : goal.returns-clause-one
returns-clause-one c = one_is_true

pub returns-clause-both : goal.returns-clause-both
returns-clause-both c = both_are_false
