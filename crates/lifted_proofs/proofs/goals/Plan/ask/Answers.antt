use Rattle.lifted_proofs.proofs.AskedGoals.{adds-none}
use Rattle.lifted_proofs.proofs.goals.Plan.ask.Goals as goal

pub returns-then-is_asked : goal.returns-then-is_asked
returns-then-is_asked c = adds-none c.requires.plan (c.is_asked.ensures c.if-is_asked.true)
