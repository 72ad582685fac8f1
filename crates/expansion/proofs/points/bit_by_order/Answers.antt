use Rattle.std.proofs.Common.{arith}
use Rattle.expansion.proofs.VariableBits.{bit_at_place}
use Rattle.expansion.proofs.points.bit_by_order.Goals as goal

pub returns-then-variables-place : goal.returns-then-variables-place
returns-then-variables-place c = search (arith, bit_at_place)
