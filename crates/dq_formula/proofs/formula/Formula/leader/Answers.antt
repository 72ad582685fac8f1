use Rattle.dq_formula.proofs.SetLeaders.{leads}
use Rattle.dq_formula.proofs.formula.Formula.leader.Goals as goal

pub returns-then-are_alike : goal.returns-then-are_alike
returns-then-are_alike c =
    leads c.args.self.now c.args.proposed c.args.place c.are_alike.result c.if-proposed-place.true c.requires
    c.if-are_alike.true c.are_alike.ensures
