use Rattle.std.proofs.Common.{◌≡◌}
use Rattle.dq_lits.specs.Formula.{existential_of}
use Rattle.expansion.specs.FirstRows.{IsRowOrder, sees_of}
use Rattle.expansion.proofs.orders.Order.find.Given as goal

abbrev pub invariant-loop-k : goal.invariant-loop-k
invariant-loop-k l = (l.k ≡ l.self.learnt) × IsRowOrder l.f (sees_of (existential_of l.f l.y)) l.rows l.self
