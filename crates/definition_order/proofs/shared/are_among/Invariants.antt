use Rattle.definition_order.proofs.OrderedUniversals.{IsPassed}
use Rattle.definition_order.proofs.shared.are_among.Given as goal

abbrev pub invariant-loop-x : goal.invariant-loop-x
invariant-loop-x l = IsPassed l.xs l.ys l.x-index l.at
