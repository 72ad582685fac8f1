use Rattle.std.proofs.Common.{length, arith}
use Rattle.expansion.proofs.VariableBits.{place_of_variable, place_found, place_missing}
use Rattle.expansion.proofs.points.place_by_order.Goals as goal

pub returns-then-variables-place : goal.returns-then-variables-place
returns-then-variables-place c =
    place_of_variable c.args.variables.now c.args.y c.proposed_place-place.result c.requires
    c.if-place-variables.true c.if-variables-place.true

pub returns-in-Some : goal.returns-in-Some
returns-in-Some c = search (arith, place_found)

pub returns-in-None : goal.returns-in-None
returns-in-None c = search (arith, (place_missing c.args.variables.now c.args.y (length c.args.variables.now)))
