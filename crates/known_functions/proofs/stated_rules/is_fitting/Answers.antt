use Rattle.std.proofs.Common.{arith}
use Rattle.known_functions.proofs.StatedRules.{fits_own, fits_seen}
use Rattle.known_functions.proofs.stated_rules.is_fitting.Goals as goal

pub returns-then-var-y : goal.returns-then-var-y
returns-then-var-y c e at is = search (arith, fits_own)

pub returns-else-var-y : goal.returns-else-var-y
returns-else-var-y c e at is = search (arith, fits_seen)
