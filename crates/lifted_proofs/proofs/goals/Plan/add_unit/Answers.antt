use Rattle.std.proofs.Common.{refl, arith}
use Rattle.lifted_proofs.proofs.AskedGoals.{unit-added}
use Rattle.lifted_proofs.proofs.goals.Plan.add_unit.Goals as goal

pub returns : goal.returns
returns c =
    unit-added c.args.table.now c.args.self.now (record c.args.self.now { goals = c.push.new.self }) c.args.j c.args.row
    c.len-h.result c.unit-place.result c.requires.plan c.unit-place.ensures c.requires.row refl c.in_ok-push.ensures.items
    (omega (arith, c.len-h.ensures, c.args.self.now.goals.ok.0))
