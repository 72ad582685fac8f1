use Rattle.std.proofs.Common.{arith}
use Rattle.lifted_proofs.proofs.SettledGoals.{lowered-here, row-added}
use Rattle.lifted_proofs.proofs.goals.Plan.lower.Goals as goal

pub returns-then-not-any_true : goal.returns-then-not-any_true
returns-then-not-any_true c = search (arith, lowered-here)

pub returns : goal.returns
returns c =
    row-added c.args.table.now c.args.self.now c.add_row.new.self c.args.goal c.row-row.result.now c.in_ok-low.low
    c.clause-clause.result.now c.in_ok-place.place c.requires.plan c.requires.goal c.row-row.ensures.at
    c.clause-clause.ensures c.in_ok-low.ensures.falsified c.in_ok-low.ensures.whole c.in_ok-place.ensures
