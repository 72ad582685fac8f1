use Rattle.oracle.proofs.KeptSelectors.{kept_along}
use Rattle.oracle.proofs.laws.selectors_are_kept_along_hints.Goals as goal

pub returns : goal.returns
returns c = λ entries logged grouped kept. kept_along entries logged grouped kept
