use Rattle.engine_cases.proofs.expressions.signed.Goals as goal

pub returns-in-true : goal.returns-in-true
returns-in-true c = c.not.ensures.node c.args.graph.now c.requires
