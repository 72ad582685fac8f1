use Rattle.std.proofs.Common.{arith}
use Rattle.expansion.proofs.ComparedRows.{bit_there, bit_nowhere}
use Rattle.expansion.proofs.orders.bit_at.Goals as goal

pub returns-in-Some : goal.returns-in-Some
returns-in-Some c = search (arith, bit_there)

pub returns-in-None : goal.returns-in-None
returns-in-None c = search (arith, bit_nowhere)
