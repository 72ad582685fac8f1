use Rattle.std.proofs.Common.{arith}
use Rattle.expansion.proofs.WrittenBits.{written_more, written_all}
use Rattle.expansion.proofs.tables.row_of_values.Goals as goal

pub loop-place-preserved : goal.loop-place-preserved
loop-place-preserved g c = search (arith, written_more)

pub returns : goal.returns
returns g c =
    written_all (g.O.Oracle.values c.args.oracle.now) c.args.variables.now c.loop-place.place c.loop-place.row
    c.loop-place-test.false c.loop-place.invariant
