use Rattle.dq_verdicts.proofs.LiftedVerdicts.{left-undecided}
use Rattle.dq_verdicts.proofs.prepared.undecided.Goals as goal

pub returns : goal.returns
returns c =
    left-undecided c.args.p.now.formula.now c.args.p.now.left.now c.args.log.now c.args.form _
    c.requires.prepared.prep c.requires.productive c.requires.undecided c.requires.limit
    (c.rounds_are_steps.ensures c.args.log.now.entries) c.code.ensures (c.in_ok-text.ensures c.args.p.now.formula.now)
