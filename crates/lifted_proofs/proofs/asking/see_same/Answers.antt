use Rattle.std.proofs.Common.{arith}
use Rattle.lifted_proofs.proofs.TakenUnits.{unit-some}
use Rattle.lifted_proofs.proofs.AskedGoals.{seen-same}
use Rattle.lifted_proofs.proofs.asking.see_same.Goals as goal

pub same_on-requires-clause-declared : goal.same_on-requires-clause-declared
same_on-requires-clause-declared c = search (arith, unit-some)

pub returns : goal.returns
returns c =
    seen-same c.args.table.now c.args.a.now c.args.b.now c.same_on.result c.unit.ensures c.var.ensures.value
    c.same_on.ensures
