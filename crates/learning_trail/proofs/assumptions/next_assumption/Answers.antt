use Rattle.std.proofs.Common.{arith}
use Rattle.dq_lits.proofs.HeldLiterals.{held-at}
use Rattle.learning_trail.proofs.TrueAssumptions.{true_more, true_all, none_from}
use Rattle.dq_lits.proofs.LiteralValues.{value_true, value_false, value_free}
use Rattle.learning_trail.proofs.assumptions.next_assumption.Goals as goal

pub loop-l-preserved : goal.loop-l-preserved
loop-l-preserved c = search (arith, true_more, value_true)

pub returns-in-False-clause-next : goal.returns-in-False-clause-next
returns-in-False-clause-next c = search (arith, held-at, value_false)

pub returns-in-Unassigned-clause-next : goal.returns-in-Unassigned-clause-next
returns-in-Unassigned-clause-next c = search (arith, held-at, value_free)

pub returns-clause-next : goal.returns-clause-next
returns-clause-next c = search (arith, true_all, none_from)
