use Rattle.std.proofs.Common.{arith}
use Rattle.skolem_checker.proofs.TablesLaws.{next_number}
use Rattle.skolem_checker.proofs.tables.numbers_below.Goals as goal

pub loop-i-preserved : goal.loop-i-preserved
loop-i-preserved c = search (arith, (next_number c.loop-i.numbers.items c.loop-i.i c.loop-i.invariant))
