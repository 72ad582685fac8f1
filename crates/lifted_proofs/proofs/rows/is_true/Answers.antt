use Rattle.std.proofs.Common.{arith}
use Rattle.lifted_proofs.proofs.LowRows.{unplaced-true, placed-true}
use Rattle.lifted_proofs.proofs.rows.is_true.Goals as goal

pub returns-in_default : goal.returns-in_default
returns-in_default c = search (arith, unplaced-true)

pub returns : goal.returns
returns c =
    placed-true c.args.f.now c.args.row.now c.args.l c.in-Some.place c.var.result c.universal_place.result
    c.get.result c.is_neg.result c.requires c.var.ensures.value c.universal_place.ensures c.in-Some.is c.get.ensures
    c.is_neg.ensures
