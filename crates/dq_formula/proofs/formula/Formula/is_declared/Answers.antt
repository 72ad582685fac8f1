use Rattle.std.proofs.Common.{arith}
use Rattle.dq_formula.proofs.Entries.{is_declared-parts}
use Rattle.dq_formula.proofs.formula.Formula.is_declared.Goals as goal

pub returns-else-is_universal : goal.returns-else-is_universal
returns-else-is_universal c = search (arith, is_declared-parts)
