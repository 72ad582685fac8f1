use Rattle.std.proofs.Common.{arith}
use Rattle.learning_trail.proofs.TrueAssumptions.{among_assumed}
use Rattle.learning_trail.proofs.assumptions.Assumptions.has.Goals as goal

pub returns-then-is_selector_of : goal.returns-then-is_selector_of
returns-then-is_selector_of c = search (arith, among_assumed)

pub returns-else-is_selector_of : goal.returns-else-is_selector_of
returns-else-is_selector_of c = search (arith, among_assumed)
