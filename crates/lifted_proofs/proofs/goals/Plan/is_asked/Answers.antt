use Rattle.std.proofs.Common.{◌≡◌, arith}
use Rattle.lifted_proofs.proofs.AskedGoals.{asked-made}
use Rattle.lifted_proofs.proofs.goals.Plan.is_asked.Goals as goal

pub returns : goal.returns
returns c =
    let g = c.goal-goal.result in
    let taken : g.source.taken ≡ c.args.j = grind (arith, c.if-goal-j.false) in
    let place : g.source.place ≡ c.unit.result.place = grind (arith, c.if-goal-unit.false) in
    λ same. asked-made c.goal-goal.ensures c.unit.ensures taken place c.row.ensures.at c.row-2.ensures.at
    (c.see_same.ensures same)
