use Rattle.std.proofs.Common.{arith}
use Rattle.definition_order.proofs.Declared.{declared_at, known_at}
use Rattle.definition_order.proofs.SortedExistentials.{both_tell, one_denies}
use Rattle.definition_order.proofs.shared.is_shared_at.Goals as goal

pub comes_before-requires-clause-first : goal.comes_before-requires-clause-first
comes_before-requires-clause-first c = search (arith, declared_at)

pub sees_no_more-requires-clause-first : goal.sees_no_more-requires-clause-first
sees_no_more-requires-clause-first c = search (arith, declared_at)

pub returns-then-comes_before : goal.returns-then-comes_before
returns-then-comes_before c = search (arith, known_at, both_tell)

pub returns-else-comes_before : goal.returns-else-comes_before
returns-else-comes_before c = search (arith, known_at, one_denies)
