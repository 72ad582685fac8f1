use Rattle.std.proofs.Common.{arith}
use Rattle.lifted_proofs.proofs.NamedGoals.{open-by, open-shut}
use Rattle.lifted_proofs.proofs.lines.is_open.Goals as goal

pub returns-then-is_existential : goal.returns-then-is_existential
returns-then-is_existential c = search (arith, open-by)

pub returns-else-is_existential : goal.returns-else-is_existential
returns-else-is_existential c = search (arith, open-shut)
