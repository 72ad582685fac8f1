use Rattle.std.proofs.Common.{arith}
use Rattle.skolem_checker.proofs.EndsLaws.{are_ends}
use Rattle.skolem_checker.proofs.ends.mark_ends.Goals as goal

pub returns-then-are_closed-clause-ends : goal.returns-then-are_closed-clause-ends
returns-then-are_closed-clause-ends c above = search (arith, are_ends)
