use Rattle.std.proofs.Common.{map, length}
use Rattle.dq_formula.proofs.Places.{place, Rise}
use Rattle.dq_formula.proofs.formula.Formula.are_in_order.Given as goal

abbrev pub invariant-loop-x : goal.invariant-loop-x
invariant-loop-x l =
    let us = l.self.universals in
    Rise l.least (length us) (map (place us) l.rest) → Rise 0 (length us) (map (place us) l.xs)

abbrev pub decreases-loop-x : goal.decreases-loop-x
decreases-loop-x l = length l.rest
