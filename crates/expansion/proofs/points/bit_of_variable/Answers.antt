use Rattle.std.proofs.Common.{eq-eqb, arith}
use Rattle.expansion.proofs.VariableBits.{look_further, looked_here}
use Rattle.expansion.proofs.points.bit_of_variable.Goals as goal

pub loop-place-preserved : goal.loop-place-preserved
loop-place-preserved c = search (arith, look_further)

pub returns-then-variable-y : goal.returns-then-variable-y
returns-then-variable-y c = search (arith, looked_here, eq-eqb)
